use Rattle.std.proofs.Common.{ℕ, ◌<◌}
use Rattle.pool_law.specs.declared.id.RootId.{RootId}
use Rattle.pool_law.specs.Logs.{of_lane, entries_of}
use Rattle.pool_law.specs.Legal.{LooksHold, others_retains}
use Rattle.run_check.specs.ByObject.{notes_in}
use Rattle.run_check.proofs.lanes.first_mislooked.Given as goal

abbrev pub invariant-loop-lane : goal.invariant-loop-lane
invariant-loop-lane l =
    (k : ℕ) → k < l.lane → (root : RootId) →
    LooksHold root (others_retains root k 0 (entries_of (notes_in l.logs))) 0 0 0
    (of_lane (entries_of (notes_in l.logs)) k)
