use Rattle.std.proofs.Common.{take}
use Rattle.std.specs.List.{AllZip}
use Rattle.run_check.proofs.ObjectNoteLemmas.{AreOf}
use Rattle.run_check.proofs.object_notes.notes_by_object.Given as goal

abbrev pub invariant-loop-log : goal.invariant-loop-log
invariant-loop-log l = AllZip AreOf l.lanes.items (take l.log-index l.logs)
