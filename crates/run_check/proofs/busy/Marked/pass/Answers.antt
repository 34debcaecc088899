use Rattle.std.proofs.Common.{◌≡◌, sym, ap, ◌∙◌}
use Rattle.std.proofs.lemmas.Result.{on_ok_weaker}
use Rattle.run_check.specs.declared.busy.Had.{Had}
use Rattle.run_check.specs.Marking.{had_of, had_note, had_after}
use Rattle.run_check.proofs.MarkLemmas.{noted-at}
use Rattle.run_check.proofs.busy.Marked.pass.Goals as goal

pub returns-in-At : goal.returns-in-At
returns-in-At c other =
    let m = c.args.self.now in
    let object = c.in-At.object in
    let number = c.in-At.number in
    let had : Had = c.noted-had.result in
    let is : had ≡ had_note (had_of m object) number =
    c.noted-had.ensures ∙ ap (λ (h : Had). had_note h number) c.of.ensures in
    on_ok_weaker c.put.result
    (λ e.
    e
    ∙ noted-at (had_of m) object number c.in-At.did had is other
    ∙ ap (had_after other (had_of m other)) (sym c.in-At.is))
    (c.put.ensures other)
