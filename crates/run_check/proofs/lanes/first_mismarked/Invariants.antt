use Rattle.std.proofs.Common.{ℕ, ◌<◌}
use Rattle.pool_law.specs.Logs.{of_lane}
use Rattle.pool_law.specs.Busy.{BusyHolds}
use Rattle.run_check.specs.ByObject.{notes_in}
use Rattle.run_check.specs.Storing.{history_in}
use Rattle.run_check.proofs.lanes.first_mismarked.Given as goal

abbrev pub invariant-loop-lane : goal.invariant-loop-lane
invariant-loop-lane l =
    (k : ℕ) → k < l.lane → BusyHolds k (history_in l.histories) (of_lane (notes_in l.logs) k)
