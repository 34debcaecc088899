use Rattle.std.proofs.Common.{◌≡◌, ◌++◌, drop}
use Rattle.pool_law.specs.declared.note.Object.{Object}
use Rattle.pool_law.specs.Logs.{own}
use Rattle.run_check.specs.ByObject.{notes_at}
use Rattle.run_check.proofs.object_notes.ObjectNotes.of.Given as goal

abbrev pub invariant-loop-note : goal.invariant-loop-note
invariant-loop-note l =
    (object : Object) → notes_at l.by_object object ++ own object (drop l.note-index l.notes) ≡ own object l.notes
