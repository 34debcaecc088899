use Rattle.std.proofs.Common.{◌++◌, ◌∷◌, codes, decimal, refl}
use Rattle.pool_law.specs.Text.{did_words, why_word}
use Rattle.pool_law.specs.declared.note.Did.{Did}
use Rattle.run_text.proofs.WordLemmas.{misread, unread, passed_on}
use Rattle.run_text.proofs.dids.at_cache.Goals as goal

pub returns-then-eq : goal.returns-then-eq
returns-then-eq c Did.Miss more kind fits e =
    (refl, (c.next-word.ensures (codes "miss") more refl e).1)
returns-then-eq c did more kind fits e =
    absurd (misread _ _ _ _ (codes "miss") (did_words did ++ more) c.next-word.ensures c.eq.ensures
    c.if-eq.true e refl refl)

pub returns-in_err-quota : goal.returns-in_err-quota
returns-in_err-quota c (Did.Trim quota) more kind fits e =
    let w = c.next-word.ensures (codes "trim") (decimal quota ∷ more) refl e in
    let r0 = rw c.in_err-quota.was at (c.small.ensures quota more fits w.1) in
    passed_on _ _ _ _ _ c.from_residual.ensures.1 r0
returns-in_err-quota c did more kind fits e =
    absurd (misread _ _ _ _ (codes "trim") (did_words did ++ more) c.next-word.ensures c.eq-else-eq.ensures
    c.if-eq-2.true e refl refl)

pub returns-in_ok-quota : goal.returns-in_ok-quota
returns-in_ok-quota c (Did.Trim quota) more kind fits e =
    let w = c.next-word.ensures (codes "trim") (decimal quota ∷ more) refl e in
    let r0 = rw c.in_ok-quota.was at (c.small.ensures quota more fits w.1) in
    (λ k. Did.Trim (r0.0 k), r0.1)
returns-in_ok-quota c did more kind fits e =
    absurd (misread _ _ _ _ (codes "trim") (did_words did ++ more) c.next-word.ensures c.eq-else-eq.ensures
    c.if-eq-2.true e refl refl)

pub returns-in_err-quota-2 : goal.returns-in_err-quota-2
returns-in_err-quota-2 c (Did.Close quota) more kind fits e =
    let w = c.next-word.ensures (codes "close") (decimal quota ∷ more) refl e in
    let r0 = rw c.in_err-quota-2.was at (c.small-then-eq-3.ensures quota more fits w.1) in
    passed_on _ _ _ _ _ c.from_residual-in_err-quota-2.ensures.1 r0
returns-in_err-quota-2 c did more kind fits e =
    absurd (misread _ _ _ _ (codes "close") (did_words did ++ more) c.next-word.ensures c.eq-else-eq-2.ensures
    c.if-eq-3.true e refl refl)

pub returns-in_ok-quota-2 : goal.returns-in_ok-quota-2
returns-in_ok-quota-2 c (Did.Close quota) more kind fits e =
    let w = c.next-word.ensures (codes "close") (decimal quota ∷ more) refl e in
    let r0 = rw c.in_ok-quota-2.was at (c.small-then-eq-3.ensures quota more fits w.1) in
    (λ k. Did.Close (r0.0 k), r0.1)
returns-in_ok-quota-2 c did more kind fits e =
    absurd (misread _ _ _ _ (codes "close") (did_words did ++ more) c.next-word.ensures c.eq-else-eq-2.ensures
    c.if-eq-3.true e refl refl)

pub returns-in_err-region : goal.returns-in_err-region
returns-in_err-region c (Did.Hit region) more kind fits e =
    let w = c.next-word.ensures (codes "hit") (decimal region.taking ∷ more) refl e in
    let r0 = rw c.in_err-region.was at (c.taking.ensures region more fits w.1) in
    passed_on _ _ _ _ _ c.from_residual-in_err-region.ensures.1 r0
returns-in_err-region c did more kind fits e =
    absurd (misread _ _ _ _ (codes "hit") (did_words did ++ more) c.next-word.ensures c.eq-else-eq-3.ensures
    c.if-eq-4.true e refl refl)

pub returns-in_ok-region : goal.returns-in_ok-region
returns-in_ok-region c (Did.Hit region) more kind fits e =
    let w = c.next-word.ensures (codes "hit") (decimal region.taking ∷ more) refl e in
    let r0 = rw c.in_ok-region.was at (c.taking.ensures region more fits w.1) in
    (λ k. Did.Hit (r0.0 k), r0.1)
returns-in_ok-region c did more kind fits e =
    absurd (misread _ _ _ _ (codes "hit") (did_words did ++ more) c.next-word.ensures c.eq-else-eq-3.ensures
    c.if-eq-4.true e refl refl)

pub returns-in_err-region-2 : goal.returns-in_err-region-2
returns-in_err-region-2 c (Did.Kept region) more kind fits e =
    let w = c.next-word.ensures (codes "kept") (decimal region.taking ∷ more) refl e in
    let r0 = rw c.in_err-region-2.was at (c.taking-then-eq-5.ensures region more fits w.1) in
    passed_on _ _ _ _ _ c.from_residual-in_err-region-2.ensures.1 r0
returns-in_err-region-2 c did more kind fits e =
    absurd (misread _ _ _ _ (codes "kept") (did_words did ++ more) c.next-word.ensures c.eq-else-eq-4.ensures
    c.if-eq-5.true e refl refl)

pub returns-in_ok-region-2 : goal.returns-in_ok-region-2
returns-in_ok-region-2 c (Did.Kept region) more kind fits e =
    let w = c.next-word.ensures (codes "kept") (decimal region.taking ∷ more) refl e in
    let r0 = rw c.in_ok-region-2.was at (c.taking-then-eq-5.ensures region more fits w.1) in
    (λ k. Did.Kept (r0.0 k), r0.1)
returns-in_ok-region-2 c did more kind fits e =
    absurd (misread _ _ _ _ (codes "kept") (did_words did ++ more) c.next-word.ensures c.eq-else-eq-4.ensures
    c.if-eq-5.true e refl refl)

pub returns-in_err-no : goal.returns-in_err-no
returns-in_err-no c (Did.Back region why) more kind fits e =
    let w = c.next-word.ensures (codes "back") (why_word why ∷ decimal region.taking ∷ more) refl e in
    let r0 = rw c.in_err-no.was at (c.reason.ensures why (decimal region.taking ∷ more) w.1) in
    passed_on _ _ _ _ _ c.from_residual-in_err-no.ensures.1 r0
returns-in_err-no c did more kind fits e =
    absurd (misread _ _ _ _ (codes "back") (did_words did ++ more) c.next-word.ensures c.eq-else-eq-5.ensures
    c.if-eq-6.true e refl refl)

pub returns-in_err-region-3 : goal.returns-in_err-region-3
returns-in_err-region-3 c (Did.Back region why) more kind fits e =
    let w = c.next-word.ensures (codes "back") (why_word why ∷ decimal region.taking ∷ more) refl e in
    let r0 = rw c.in_ok-no.was at (c.reason.ensures why (decimal region.taking ∷ more) w.1) in
    let r1 = rw c.in_err-region-3.was at (c.taking-then-eq-6.ensures region more fits r0.1) in
    passed_on _ _ _ _ _ c.from_residual-in_err-region-3.ensures.1 r1
returns-in_err-region-3 c did more kind fits e =
    absurd (misread _ _ _ _ (codes "back") (did_words did ++ more) c.next-word.ensures c.eq-else-eq-5.ensures
    c.if-eq-6.true e refl refl)

pub returns-in_ok-region-3 : goal.returns-in_ok-region-3
returns-in_ok-region-3 c (Did.Back region why) more kind fits e =
    let w = c.next-word.ensures (codes "back") (why_word why ∷ decimal region.taking ∷ more) refl e in
    let r0 = rw c.in_ok-no.was at (c.reason.ensures why (decimal region.taking ∷ more) w.1) in
    let r1 = rw c.in_ok-region-3.was at (c.taking-then-eq-6.ensures region more fits r0.1) in
    (λ k. Did.Back (r1.0 k) (r0.0 k), r1.1)
returns-in_ok-region-3 c did more kind fits e =
    absurd (misread _ _ _ _ (codes "back") (did_words did ++ more) c.next-word.ensures c.eq-else-eq-5.ensures
    c.if-eq-6.true e refl refl)

pub returns-in_err-region-4 : goal.returns-in_err-region-4
returns-in_err-region-4 c (Did.Shed region) more kind fits e =
    let w = c.next-word.ensures (codes "shed") (decimal region.taking ∷ more) refl e in
    let r0 = rw c.in_err-region-4.was at (c.taking-then-eq-7.ensures region more fits w.1) in
    passed_on _ _ _ _ _ c.from_residual-in_err-region-4.ensures.1 r0
returns-in_err-region-4 c did more kind fits e =
    absurd (misread _ _ _ _ (codes "shed") (did_words did ++ more) c.next-word.ensures c.eq-else-eq-6.ensures
    c.if-eq-7.true e refl refl)

pub returns-in_ok-region-4 : goal.returns-in_ok-region-4
returns-in_ok-region-4 c (Did.Shed region) more kind fits e =
    let w = c.next-word.ensures (codes "shed") (decimal region.taking ∷ more) refl e in
    let r0 = rw c.in_ok-region-4.was at (c.taking-then-eq-7.ensures region more fits w.1) in
    (λ k. Did.Shed (r0.0 k), r0.1)
returns-in_ok-region-4 c did more kind fits e =
    absurd (misread _ _ _ _ (codes "shed") (did_words did ++ more) c.next-word.ensures c.eq-else-eq-6.ensures
    c.if-eq-7.true e refl refl)

pub returns-else-eq-7 : goal.returns-else-eq-7
returns-else-eq-7 c Did.Miss more kind fits e =
    absurd (unread _ _ _ _ (codes "miss") (did_words Did.Miss ++ more) c.next-word.ensures
    c.eq.ensures c.if-eq.false e refl refl)
returns-else-eq-7 c (Did.Trim quota) more kind fits e =
    absurd (unread _ _ _ _ (codes "trim") (did_words (Did.Trim quota) ++ more) c.next-word.ensures
    c.eq-else-eq.ensures c.if-eq-2.false e refl refl)
returns-else-eq-7 c (Did.Close quota) more kind fits e =
    absurd (unread _ _ _ _ (codes "close") (did_words (Did.Close quota) ++ more) c.next-word.ensures
    c.eq-else-eq-2.ensures c.if-eq-3.false e refl refl)
returns-else-eq-7 c (Did.Hit region) more kind fits e =
    absurd (unread _ _ _ _ (codes "hit") (did_words (Did.Hit region) ++ more) c.next-word.ensures
    c.eq-else-eq-3.ensures c.if-eq-4.false e refl refl)
returns-else-eq-7 c (Did.Kept region) more kind fits e =
    absurd (unread _ _ _ _ (codes "kept") (did_words (Did.Kept region) ++ more) c.next-word.ensures
    c.eq-else-eq-4.ensures c.if-eq-5.false e refl refl)
returns-else-eq-7 c (Did.Back region why) more kind fits e =
    absurd (unread _ _ _ _ (codes "back") (did_words (Did.Back region why) ++ more) c.next-word.ensures
    c.eq-else-eq-5.ensures c.if-eq-6.false e refl refl)
returns-else-eq-7 c (Did.Shed region) more kind fits e =
    absurd (unread _ _ _ _ (codes "shed") (did_words (Did.Shed region) ++ more) c.next-word.ensures
    c.eq-else-eq-6.ensures c.if-eq-7.false e refl refl)
returns-else-eq-7 c did more kind fits e = absurd (cc)
