use Rattle.std.proofs.Common.{◌∷◌, codes, refl}
use Rattle.pool_law.specs.Text.{why_word}
use Rattle.pool_law.specs.declared.note.CacheNo.{CacheNo}
use Rattle.run_text.proofs.WordLemmas.{misread, unread}
use Rattle.run_text.proofs.regions.reason.Goals as goal

pub returns-then-eq : goal.returns-then-eq
returns-then-eq c CacheNo.Full more e =
    (refl, (c.next-word.ensures (codes "full") more refl e).1)
returns-then-eq c why more e =
    absurd (misread _ _ _ _ (codes "full") (why_word why ∷ more) c.next-word.ensures c.eq.ensures
    c.if-eq.true e refl refl)

pub returns-then-eq-2 : goal.returns-then-eq-2
returns-then-eq-2 c CacheNo.Closed more e =
    (refl, (c.next-word.ensures (codes "closed") more refl e).1)
returns-then-eq-2 c why more e =
    absurd (misread _ _ _ _ (codes "closed") (why_word why ∷ more) c.next-word.ensures c.eq-else-eq.ensures
    c.if-eq-2.true e refl refl)

pub returns-else-eq-2 : goal.returns-else-eq-2
returns-else-eq-2 c CacheNo.Full more e =
    absurd (unread _ _ _ _ (codes "full") (why_word CacheNo.Full ∷ more) c.next-word.ensures
    c.eq.ensures c.if-eq.false e refl refl)
returns-else-eq-2 c CacheNo.Closed more e =
    absurd (unread _ _ _ _ (codes "closed") (why_word CacheNo.Closed ∷ more) c.next-word.ensures
    c.eq-else-eq.ensures c.if-eq-2.false e refl refl)
