use Rattle.std.proofs.Common.{◌++◌, sym, ap, ◌∙◌}
use Rattle.std.proofs.lemmas.Result.{on_ok_weaker}
use Rattle.pool_law.specs.declared.note.Note.{Note}
use Rattle.pool_law.specs.Logs.{own_note}
use Rattle.run_check.specs.ByObject.{notes_at}
use Rattle.run_check.proofs.ObjectNoteLemmas.{note-own}
use Rattle.run_check.proofs.object_notes.ObjectNotes.put_note.Goals as goal

pub returns-in-At : goal.returns-in-At
returns-in-At c object =
    let old = notes_at c.args.self.now object in
    on_ok_weaker c.put.result
    (λ e.
    note-own c.in-At.object object c.in-At.number c.in-At.did old (notes_at c.put.new.self object) e
    ∙ ap (λ (n : Note). old ++ own_note object n) (sym c.in-At.is))
    (c.put.ensures object)
