use Rattle.std.proofs.Common.{ℕ, ◌<◌}
use Rattle.std.specs.Prelude.{IsTrue}
use Rattle.std.specs.List.{list_all}
use Rattle.pool_law.specs.Logs.{of_lane, note_stands}
use Rattle.run_check.specs.ByObject.{notes_in}
use Rattle.run_check.proofs.lanes.first_astray.Given as goal

abbrev pub invariant-loop-lane : goal.invariant-loop-lane
invariant-loop-lane l =
    (k : ℕ) → k < l.lane → IsTrue (list_all (note_stands l.shape k) (of_lane (notes_in l.logs) k))
