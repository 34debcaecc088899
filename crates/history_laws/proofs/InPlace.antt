-- A note that follows a history stands where it may.
use Rattle.std.proofs.Common.{List, [], ◌∷◌, ◌++◌}
use Rattle.pool_law.specs.declared.run.Shape.{Shape}
use Rattle.pool_law.specs.declared.note.Noted.{Noted}
use Rattle.pool_law.specs.declared.note.Object.{Object}
use Rattle.history_laws.specs.Histories.{IsLawful}
use Rattle.history_laws.specs.Standing.{IsInPlace}
use Rattle.history_laws.proofs.Bins.{placed, mailed}
use Rattle.history_laws.proofs.Roots.{rooted}
use Rattle.history_laws.proofs.TakingMoves.{regioned, of_class}

pub in_place : (s : Shape) (o : Object) (h : List Noted) (n : Noted) → IsLawful s o (h ++ n ∷ []) → IsInPlace s o n
in_place s o h n t =
    record {
      placed = placed s o h n t;
      mailed = mailed s o h n t;
      rooted = rooted s o h n t;
      regioned =
          regioned s o h n t;
      of_class = of_class s o h n t;
    }
