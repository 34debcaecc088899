use Rattle.std.proofs.Common.{◌≤◌, sym, subst}
use Rattle.std.specs.Prelude.{◌↔◌, nat_le, IsTrue}
use Rattle.pool_law.specs.declared.note.Note.{Note}
use Rattle.pool_law.specs.declared.note.Object.{Object}
use Rattle.run_check.specs.declared.busy.Had.{Had}
use Rattle.run_check.specs.Marking.{had_of, least_after, MayCome}
use Rattle.run_check.proofs.MarkLemmas.{note-may, mark-may}
use Rattle.run_check.proofs.busy.Marked.may_come.Goals as goal

pub returns-in-At : goal.returns-in-At
returns-in-At c =
    let m = c.args.self.now in
    subst
    (λ (n : Note). IsTrue c.may_note.result ↔ ((object : Object) → MayCome object (had_of m object) n))
    (sym c.in-At.is)
    (note-may (had_of m) c.in-At.object c.in-At.number c.in-At.did c.may_note.result
    (subst (λ (h : Had). IsTrue c.may_note.result ↔ (least_after h.mark ≤ c.in-At.number)) c.of.ensures
    c.may_note.ensures))

pub returns-in-Busy : goal.returns-in-Busy
returns-in-Busy c =
    let m = c.args.self.now in
    subst
    (λ (n : Note). IsTrue (nat_le c.of-in-Busy.result.number c.in-Busy.held.number)
    ↔ ((object : Object) → MayCome object (had_of m object) n))
    (sym c.in-Busy.is)
    (subst
    (λ (h : Had). IsTrue (nat_le h.number c.in-Busy.held.number)
    ↔ ((object : Object) → MayCome object (had_of m object) (Note.Busy c.in-Busy.held)))
    (sym c.of-in-Busy.ensures)
    (mark-may (had_of m) c.in-Busy.held))
