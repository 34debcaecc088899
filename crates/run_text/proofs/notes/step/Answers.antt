use Rattle.std.proofs.Common.{◌++◌, ◌∷◌, ◌∙◌, decimal, sym, ap}
use Rattle.pool_law.specs.Text.{did_words}
use Rattle.pool_law.specs.declared.note.Note.{Note}
use Rattle.run_text.specs.Told.{kind_of}
use Rattle.run_text.proofs.WordLemmas.{passed_on}
use Rattle.run_text.proofs.notes.step.Goals as goal

pub returns-in_err-object : goal.returns-in_err-object
returns-in_err-object c = λ object number did more named small fits kind e.
    let r0 = rw c.in_err-object.was at (c.object.ensures object (decimal number ∷ did_words did ++ more) named e) in
    passed_on _ _ _ _ _ c.from_residual.ensures.1 r0

pub returns-in_err-number : goal.returns-in_err-number
returns-in_err-number c = λ object number did more named small fits kind e.
    let r0 = rw c.in_ok-object.was at (c.object.ensures object (decimal number ∷ did_words did ++ more) named e) in
    let r1 = rw c.in_err-number.was at (c.number.ensures number (did_words did ++ more) small r0.1) in
    passed_on _ _ _ _ _ c.from_residual-in_err-number.ensures.1 r1

pub returns-in_err-did : goal.returns-in_err-did
returns-in_err-did c = λ object number did more named small fits kind e.
    let r0 = rw c.in_ok-object.was at (c.object.ensures object (decimal number ∷ did_words did ++ more) named e) in
    let r1 = rw c.in_ok-number.was at (c.number.ensures number (did_words did ++ more) small r0.1) in
    let r2 = rw c.in_err-did.was at (c.done_to.ensures did more (kind ∙ ap kind_of (sym r0.0)) fits r1.1) in
    passed_on _ _ _ _ _ c.from_residual-in_err-did.ensures.1 r2

pub returns : goal.returns
returns c = λ object number did more named small fits kind e.
    let r0 = rw c.in_ok-object.was at (c.object.ensures object (decimal number ∷ did_words did ++ more) named e) in
    let r1 = rw c.in_ok-number.was at (c.number.ensures number (did_words did ++ more) small r0.1) in
    let r2 = rw c.in_ok-did.was at (c.done_to.ensures did more (kind ∙ ap kind_of (sym r0.0)) fits r1.1) in
    (λ k. Note.At (r0.0 k) (r1.0 k) (r2.0 k), r2.1)
