use Rattle.std.proofs.Common.{◌++◌, codes, refl}
use Rattle.pool_law.specs.Text.{did_words, parcel_words}
use Rattle.pool_law.specs.declared.note.Did.{Did}
use Rattle.run_text.proofs.WordLemmas.{misread, unread, passed_on}
use Rattle.run_text.proofs.dids.at_mail.Goals as goal

pub returns-in_err-sent : goal.returns-in_err-sent
returns-in_err-sent c (Did.Post parcel) more kind fits e =
    let w = c.next-word.ensures (codes "post") (parcel_words parcel.view ++ more) refl e in
    let r0 = rw c.in_err-sent.was at (c.parcel.ensures parcel.view more fits w.1) in
    passed_on _ _ _ _ _ c.from_residual.ensures.1 r0
returns-in_err-sent c did more kind fits e =
    absurd (misread _ _ _ _ (codes "post") (did_words did ++ more) c.next-word.ensures c.eq.ensures
    c.if-eq.true e refl refl)

pub returns-in_ok-sent : goal.returns-in_ok-sent
returns-in_ok-sent c (Did.Post parcel) more kind fits e =
    let w = c.next-word.ensures (codes "post") (parcel_words parcel.view ++ more) refl e in
    let r0 = rw c.in_ok-sent.was at (c.parcel.ensures parcel.view more fits w.1) in
    (λ k. Did.Post (r0.0 k), r0.1)
returns-in_ok-sent c did more kind fits e =
    absurd (misread _ _ _ _ (codes "post") (did_words did ++ more) c.next-word.ensures c.eq.ensures
    c.if-eq.true e refl refl)

pub returns-in_err-sent-2 : goal.returns-in_err-sent-2
returns-in_err-sent-2 c (Did.Fetch parcel) more kind fits e =
    let w = c.next-word.ensures (codes "fetch") (parcel_words parcel.view ++ more) refl e in
    let r0 = rw c.in_err-sent-2.was at (c.parcel-then-eq-2.ensures parcel.view more fits w.1) in
    passed_on _ _ _ _ _ c.from_residual-in_err-sent-2.ensures.1 r0
returns-in_err-sent-2 c did more kind fits e =
    absurd (misread _ _ _ _ (codes "fetch") (did_words did ++ more) c.next-word.ensures c.eq-else-eq.ensures
    c.if-eq-2.true e refl refl)

pub returns-in_ok-sent-2 : goal.returns-in_ok-sent-2
returns-in_ok-sent-2 c (Did.Fetch parcel) more kind fits e =
    let w = c.next-word.ensures (codes "fetch") (parcel_words parcel.view ++ more) refl e in
    let r0 = rw c.in_ok-sent-2.was at (c.parcel-then-eq-2.ensures parcel.view more fits w.1) in
    (λ k. Did.Fetch (r0.0 k), r0.1)
returns-in_ok-sent-2 c did more kind fits e =
    absurd (misread _ _ _ _ (codes "fetch") (did_words did ++ more) c.next-word.ensures c.eq-else-eq.ensures
    c.if-eq-2.true e refl refl)

pub returns-else-eq-2 : goal.returns-else-eq-2
returns-else-eq-2 c (Did.Post parcel) more kind fits e =
    absurd (unread _ _ _ _ (codes "post") (did_words (Did.Post parcel) ++ more) c.next-word.ensures
    c.eq.ensures c.if-eq.false e refl refl)
returns-else-eq-2 c (Did.Fetch parcel) more kind fits e =
    absurd (unread _ _ _ _ (codes "fetch") (did_words (Did.Fetch parcel) ++ more) c.next-word.ensures
    c.eq-else-eq.ensures c.if-eq-2.false e refl refl)
returns-else-eq-2 c did more kind fits e = absurd (cc)
