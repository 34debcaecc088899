use Rattle.std.proofs.Common.{take}
use Rattle.std.specs.List.{AllZip}
use Rattle.pool_law.specs.declared.run.Shape.{Shape}
use Rattle.run_check.specs.ByObject.{notes_in}
use Rattle.run_check.specs.Storing.{AreHistories}
use Rattle.run_check.specs.Entering.{IsToldOf}
use Rattle.run_check.proofs.entries.told_of_lanes.Given as goal

abbrev pub invariant-loop-log : goal.invariant-loop-log
invariant-loop-log l =
    (shape : Shape) → AreHistories shape (notes_in l.logs) l.histories →
    AllZip (IsToldOf (notes_in l.logs)) l.told.items (take l.log-index l.logs)
