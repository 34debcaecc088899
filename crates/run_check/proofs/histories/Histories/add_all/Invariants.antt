use Rattle.std.proofs.Common.{take}
use Rattle.pool_law.specs.Logs.{Logs}
use Rattle.run_check.specs.ByObject.{AreByObject}
use Rattle.run_check.specs.Storing.{AreObjectHistories, Keeps, Covers}
use Rattle.run_check.proofs.histories.Histories.add_all.Given as goal

abbrev pub invariant-loop-note : goal.invariant-loop-note
invariant-loop-note l =
    (logs : Logs) → AreByObject l.lanes logs → AreObjectHistories l.shape logs l.initial.self →
    AreObjectHistories l.shape logs l.self × Keeps l.initial.self l.self × Covers l.self (take l.note-index l.notes)
