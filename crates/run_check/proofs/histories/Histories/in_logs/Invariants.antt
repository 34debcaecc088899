use Rattle.std.proofs.Common.{ℕ, ◌<◌}
use Rattle.pool_law.specs.Logs.{of_lane}
use Rattle.run_check.specs.ByObject.{notes_in}
use Rattle.run_check.specs.Storing.{AreObjectHistories, Covers}
use Rattle.run_check.proofs.histories.Histories.in_logs.Given as goal

abbrev pub invariant-loop-log : goal.invariant-loop-log
invariant-loop-log l =
    AreObjectHistories l.shape (notes_in l.logs) l.histories
    × ((k : ℕ) → k < l.log-index → Covers l.histories (of_lane (notes_in l.logs) k))
