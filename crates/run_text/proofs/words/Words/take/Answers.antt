use Rattle.std.proofs.Common.{sym, ◌∙◌, refl}
use Rattle.run_text.proofs.WordLemmas.{is_text, not_text}
use Rattle.run_text.proofs.words.Words.take.Goals as goal

pub returns-then-is_it : goal.returns-then-is_it
returns-then-is_it c = λ first more free e.
    let w = c.next-first.ensures first more free e in
    let same = is_text c.eq-is_it.result c.next-first.result.now c.args.word.now c.eq-is_it.ensures c.if-is_it.true in
    rw c.if-is_it.true (sym w.0 ∙ same, w.1)

pub returns-else-is_it : goal.returns-else-is_it
returns-else-is_it c = λ first more free e.
    let w = c.next-first.ensures first more free e in
    let other = not_text c.eq-is_it.result c.next-first.result.now c.args.word.now c.eq-is_it.ensures c.if-is_it.false
    in
    rw c.if-is_it.false ((λ same. other (w.0 ∙ same)), refl)
