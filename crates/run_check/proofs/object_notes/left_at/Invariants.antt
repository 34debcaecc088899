use Rattle.std.proofs.Common.{take}
use Rattle.std.specs.List.{AllZip}
use Rattle.run_check.proofs.ObjectNoteLemmas.{IsAt}
use Rattle.run_check.proofs.object_notes.left_at.Given as goal

abbrev pub invariant-loop-by_object : goal.invariant-loop-by_object
invariant-loop-by_object l = AllZip (IsAt l.object) l.left.items (take l.by_object-index l.lanes)
