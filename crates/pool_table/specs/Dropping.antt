-- What a release noted, by its answer: a root that lives on gives the seat a move, and of a root
-- that it ended the seat has the end token.
use Rattle.std.specs.Prelude.{◌≡◌, ◌+◌}
use Rattle.pool_law.specs.declared.id.RootId.{RootId}
use Rattle.pool_law.specs.declared.note.RefDid.TheVariants as did
use Rattle.pool_table.specs.declared.roots.Dropped.{Dropped}
use Rattle.pool_table.specs.declared.roots.Dropped.TheVariants.{Kept, Ended}
use Rattle.pool_table.specs.declared.views.SeatView.{SeatView}
use Rattle.pool_table.specs.Counts.{with_ref, HasToken}
use Rattle.pool_table.specs.Hands.{HasNoEnd}

abbrev pub IsDroppedAs : Dropped → RootId → SeatView → SeatView → Type 0
IsDroppedAs Kept r v w = w ≡ with_ref v r did.Kept (v.moves + 1)
IsDroppedAs (Ended t) r v w =
    (t.root ≡ r) × (w ≡ with_ref v r did.Ended v.moves) × HasToken r w × HasNoEnd r w
