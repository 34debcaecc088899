-- What is written through the slice is written over the piece.
use Rattle.std.proofs.Common.{rules, refl, ap}
use Rattle.ground.specs.Ground.{overwritten}
use Rattle.ground.proofs.piece.Piece.bytes_mut.Goals as goal

pub returns : goal.returns
returns c = (
  (refl, λ w. ap (λ s. overwritten s w) c.self.view_is),
  record { writes_back = tt; value = search rules },
)
