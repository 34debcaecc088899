use Rattle.std.proofs.Common.{◌++◌, ◌∷◌, codes, decimal, refl}
use Rattle.pool_law.specs.Text.{ref_words}
use Rattle.pool_law.specs.declared.note.RefDid.{RefDid}
use Rattle.run_text.proofs.WordLemmas.{misread, unread, passed_on}
use Rattle.run_text.proofs.objects.ref_did.Goals as goal

pub returns-then-eq : goal.returns-then-eq
returns-then-eq c RefDid.Born more fits e =
    (refl, (c.next-word.ensures (codes "born") more refl e).1)
returns-then-eq c did more fits e =
    absurd (misread _ _ _ _ (codes "born") (ref_words did ++ more) c.next-word.ensures c.eq.ensures
    c.if-eq.true e refl refl)

pub returns-then-eq-2 : goal.returns-then-eq-2
returns-then-eq-2 c RefDid.Retain more fits e =
    (refl, (c.next-word.ensures (codes "retain") more refl e).1)
returns-then-eq-2 c did more fits e =
    absurd (misread _ _ _ _ (codes "retain") (ref_words did ++ more) c.next-word.ensures c.eq-else-eq.ensures
    c.if-eq-2.true e refl refl)

pub returns-then-eq-3 : goal.returns-then-eq-3
returns-then-eq-3 c RefDid.Kept more fits e =
    (refl, (c.next-word.ensures (codes "kept") more refl e).1)
returns-then-eq-3 c did more fits e =
    absurd (misread _ _ _ _ (codes "kept") (ref_words did ++ more) c.next-word.ensures c.eq-else-eq-2.ensures
    c.if-eq-3.true e refl refl)

pub returns-then-eq-4 : goal.returns-then-eq-4
returns-then-eq-4 c RefDid.Ended more fits e =
    (refl, (c.next-word.ensures (codes "ended") more refl e).1)
returns-then-eq-4 c did more fits e =
    absurd (misread _ _ _ _ (codes "ended") (ref_words did ++ more) c.next-word.ensures c.eq-else-eq-3.ensures
    c.if-eq-4.true e refl refl)

pub returns-then-eq-5 : goal.returns-then-eq-5
returns-then-eq-5 c RefDid.Vacated more fits e =
    (refl, (c.next-word.ensures (codes "vacated") more refl e).1)
returns-then-eq-5 c did more fits e =
    absurd (misread _ _ _ _ (codes "vacated") (ref_words did ++ more) c.next-word.ensures c.eq-else-eq-4.ensures
    c.if-eq-5.true e refl refl)

pub returns-in_err-small : goal.returns-in_err-small
returns-in_err-small c (RefDid.Look found) more fits e =
    let w = c.next-word.ensures (codes "look") (decimal found ∷ more) refl e in
    let r0 = rw c.in_err-small.was at (c.small.ensures found more fits w.1) in
    passed_on _ _ _ _ _ c.from_residual.ensures.1 r0
returns-in_err-small c did more fits e =
    absurd (misread _ _ _ _ (codes "look") (ref_words did ++ more) c.next-word.ensures c.eq-else-eq-5.ensures
    c.if-eq-6.true e refl refl)

pub returns-in_ok-small : goal.returns-in_ok-small
returns-in_ok-small c (RefDid.Look found) more fits e =
    let w = c.next-word.ensures (codes "look") (decimal found ∷ more) refl e in
    let r0 = rw c.in_ok-small.was at (c.small.ensures found more fits w.1) in
    (λ k. RefDid.Look (r0.0 k), r0.1)
returns-in_ok-small c did more fits e =
    absurd (misread _ _ _ _ (codes "look") (ref_words did ++ more) c.next-word.ensures c.eq-else-eq-5.ensures
    c.if-eq-6.true e refl refl)

pub returns-else-eq-6 : goal.returns-else-eq-6
returns-else-eq-6 c RefDid.Born more fits e =
    absurd (unread _ _ _ _ (codes "born") (ref_words RefDid.Born ++ more) c.next-word.ensures
    c.eq.ensures c.if-eq.false e refl refl)
returns-else-eq-6 c RefDid.Retain more fits e =
    absurd (unread _ _ _ _ (codes "retain") (ref_words RefDid.Retain ++ more) c.next-word.ensures
    c.eq-else-eq.ensures c.if-eq-2.false e refl refl)
returns-else-eq-6 c RefDid.Kept more fits e =
    absurd (unread _ _ _ _ (codes "kept") (ref_words RefDid.Kept ++ more) c.next-word.ensures
    c.eq-else-eq-2.ensures c.if-eq-3.false e refl refl)
returns-else-eq-6 c RefDid.Ended more fits e =
    absurd (unread _ _ _ _ (codes "ended") (ref_words RefDid.Ended ++ more) c.next-word.ensures
    c.eq-else-eq-3.ensures c.if-eq-4.false e refl refl)
returns-else-eq-6 c RefDid.Vacated more fits e =
    absurd (unread _ _ _ _ (codes "vacated") (ref_words RefDid.Vacated ++ more) c.next-word.ensures
    c.eq-else-eq-4.ensures c.if-eq-5.false e refl refl)
returns-else-eq-6 c (RefDid.Look found) more fits e =
    absurd (unread _ _ _ _ (codes "look") (ref_words (RefDid.Look found) ++ more) c.next-word.ensures
    c.eq-else-eq-5.ensures c.if-eq-6.false e refl refl)
