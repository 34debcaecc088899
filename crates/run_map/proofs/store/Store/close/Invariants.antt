use Rattle.std.proofs.Common.{◌≡◌, ℕ, None, slice_index_or}
use Rattle.run_map.proofs.store.Store.close.Given as goal

abbrev pub invariant-loop-piece : goal.invariant-loop-piece
invariant-loop-piece l = (i : ℕ) → slice_index_or l.pieces.items i None ≡ None

abbrev pub decreases-loop-piece : goal.decreases-loop-piece
decreases-loop-piece l = goal.left-loop-piece l
