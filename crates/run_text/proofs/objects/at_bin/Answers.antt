use Rattle.std.proofs.Common.{◌++◌, ◌∷◌, codes, decimal, refl}
use Rattle.pool_law.specs.Text.{did_words}
use Rattle.pool_law.specs.declared.note.Did.{Did}
use Rattle.run_text.proofs.WordLemmas.{misread, unread, passed_on}
use Rattle.run_text.proofs.objects.at_bin.Goals as goal

pub returns-in_err-small : goal.returns-in_err-small
returns-in_err-small c (Did.Handle place) more kind fits e =
    let w = c.next-word.ensures (codes "handle") (decimal place ∷ more) refl e in
    let r0 = rw c.in_err-small.was at (c.small.ensures place more fits w.1) in
    passed_on _ _ _ _ _ c.from_residual.ensures.1 r0
returns-in_err-small c did more kind fits e =
    absurd (misread _ _ _ _ (codes "handle") (did_words did ++ more) c.next-word.ensures c.eq.ensures
    c.if-eq.true e refl refl)

pub returns-in_ok-small : goal.returns-in_ok-small
returns-in_ok-small c (Did.Handle place) more kind fits e =
    let w = c.next-word.ensures (codes "handle") (decimal place ∷ more) refl e in
    let r0 = rw c.in_ok-small.was at (c.small.ensures place more fits w.1) in
    (λ k. Did.Handle (r0.0 k), r0.1)
returns-in_ok-small c did more kind fits e =
    absurd (misread _ _ _ _ (codes "handle") (did_words did ++ more) c.next-word.ensures c.eq.ensures
    c.if-eq.true e refl refl)

pub returns-then-eq-2 : goal.returns-then-eq-2
returns-then-eq-2 c Did.NoHandle more kind fits e =
    (refl, (c.next-word.ensures (codes "none") more refl e).1)
returns-then-eq-2 c did more kind fits e =
    absurd (misread _ _ _ _ (codes "none") (did_words did ++ more) c.next-word.ensures c.eq-else-eq.ensures
    c.if-eq-2.true e refl refl)

pub returns-in_err-small-2 : goal.returns-in_err-small-2
returns-in_err-small-2 c (Did.Home place) more kind fits e =
    let w = c.next-word.ensures (codes "home") (decimal place ∷ more) refl e in
    let r0 = rw c.in_err-small-2.was at (c.small-then-eq-3.ensures place more fits w.1) in
    passed_on _ _ _ _ _ c.from_residual-in_err-small-2.ensures.1 r0
returns-in_err-small-2 c did more kind fits e =
    absurd (misread _ _ _ _ (codes "home") (did_words did ++ more) c.next-word.ensures c.eq-else-eq-2.ensures
    c.if-eq-3.true e refl refl)

pub returns-in_ok-small-2 : goal.returns-in_ok-small-2
returns-in_ok-small-2 c (Did.Home place) more kind fits e =
    let w = c.next-word.ensures (codes "home") (decimal place ∷ more) refl e in
    let r0 = rw c.in_ok-small-2.was at (c.small-then-eq-3.ensures place more fits w.1) in
    (λ k. Did.Home (r0.0 k), r0.1)
returns-in_ok-small-2 c did more kind fits e =
    absurd (misread _ _ _ _ (codes "home") (did_words did ++ more) c.next-word.ensures c.eq-else-eq-2.ensures
    c.if-eq-3.true e refl refl)

pub returns-else-eq-3 : goal.returns-else-eq-3
returns-else-eq-3 c (Did.Handle place) more kind fits e =
    absurd (unread _ _ _ _ (codes "handle") (did_words (Did.Handle place) ++ more) c.next-word.ensures
    c.eq.ensures c.if-eq.false e refl refl)
returns-else-eq-3 c Did.NoHandle more kind fits e =
    absurd (unread _ _ _ _ (codes "none") (did_words Did.NoHandle ++ more) c.next-word.ensures
    c.eq-else-eq.ensures c.if-eq-2.false e refl refl)
returns-else-eq-3 c (Did.Home place) more kind fits e =
    absurd (unread _ _ _ _ (codes "home") (did_words (Did.Home place) ++ more) c.next-word.ensures
    c.eq-else-eq-2.ensures c.if-eq-3.false e refl refl)
returns-else-eq-3 c did more kind fits e = absurd (cc)
