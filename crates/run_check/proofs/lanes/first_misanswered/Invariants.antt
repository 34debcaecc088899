use Rattle.std.proofs.Common.{ℕ, ◌<◌}
use Rattle.pool_law.specs.Logs.{of_lane, entries_of}
use Rattle.pool_law.specs.LaneLaw.{IsLaneLog}
use Rattle.run_check.specs.ByObject.{notes_in}
use Rattle.run_check.specs.ByObject.{replies_in}
use Rattle.run_check.proofs.lanes.first_misanswered.Given as goal

abbrev pub invariant-loop-lane : goal.invariant-loop-lane
invariant-loop-lane l =
    (k : ℕ) → k < l.lane →
    IsLaneLog l.shape k (of_lane l.lanes k) (of_lane (replies_in l.logs) k) (of_lane (entries_of (notes_in l.logs)) k)
