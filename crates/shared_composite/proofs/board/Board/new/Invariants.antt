use Rattle.std.specs.Prelude.{Some}
use Rattle.shared_composite.specs.Homes.{cores_in}
use Rattle.shared_composite.proofs.board.Board.new.Given as goal

abbrev pub ghosts-new : goal.ghosts-new
ghosts-new g a = record { value = Some (record { pool = g.pool; cores = cores_in a.slots.items }) }
