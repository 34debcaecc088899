use Rattle.std.proofs.Common.{ℕ, ◌<◌}
use Rattle.pool_law.specs.declared.id.RootId.{RootId}
use Rattle.pool_law.specs.Logs.{of_lane, entries_of}
use Rattle.pool_law.specs.Counts.{CountsHold}
use Rattle.run_check.specs.ByObject.{notes_in}
use Rattle.run_check.proofs.lanes.first_miscounted.Given as goal

abbrev pub invariant-loop-lane : goal.invariant-loop-lane
invariant-loop-lane l =
    (k : ℕ) → k < l.lane → (root : RootId) → CountsHold root 0 (of_lane (entries_of (notes_in l.logs)) k)
