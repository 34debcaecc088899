use Rattle.std.proofs.Common.{◌++◌, ◌∷◌, codes, decimal, refl}
use Rattle.pool_law.specs.Text.{object_words}
use Rattle.pool_law.specs.declared.note.Object.{Object}
use Rattle.run_text.proofs.WordLemmas.{misread, unread, passed_on}
use Rattle.run_text.proofs.objects.object.Goals as goal

pub returns-in_err-small : goal.returns-in_err-small
returns-in_err-small c (Object.Arena number) more fits e =
    let w = c.next-word.ensures (codes "arena") (decimal number ∷ more) refl e in
    let r0 = rw c.in_err-small.was at (c.small.ensures number more fits w.1) in
    passed_on _ _ _ _ _ c.from_residual.ensures.1 r0
returns-in_err-small c object more fits e =
    absurd (misread _ _ _ _ (codes "arena") (object_words object ++ more) c.next-word.ensures c.eq.ensures
    c.if-eq.true e refl refl)

pub returns-in_ok-small : goal.returns-in_ok-small
returns-in_ok-small c (Object.Arena number) more fits e =
    let w = c.next-word.ensures (codes "arena") (decimal number ∷ more) refl e in
    let r0 = rw c.in_ok-small.was at (c.small.ensures number more fits w.1) in
    (λ k. Object.Arena (r0.0 k), r0.1)
returns-in_ok-small c object more fits e =
    absurd (misread _ _ _ _ (codes "arena") (object_words object ++ more) c.next-word.ensures c.eq.ensures
    c.if-eq.true e refl refl)

pub returns-in_err-lane : goal.returns-in_err-lane
returns-in_err-lane c (Object.Cache lane class) more fits e =
    let w = c.next-word.ensures (codes "cache") (decimal lane ∷ decimal class ∷ more) refl e in
    let r0 = rw c.in_err-lane.was at (c.small-then-eq-2.ensures lane (decimal class ∷ more) fits.0 w.1) in
    passed_on _ _ _ _ _ c.from_residual-in_err-lane.ensures.1 r0
returns-in_err-lane c object more fits e =
    absurd (misread _ _ _ _ (codes "cache") (object_words object ++ more) c.next-word.ensures c.eq-else-eq.ensures
    c.if-eq-2.true e refl refl)

pub returns-in_err-class : goal.returns-in_err-class
returns-in_err-class c (Object.Cache lane class) more fits e =
    let w = c.next-word.ensures (codes "cache") (decimal lane ∷ decimal class ∷ more) refl e in
    let r0 = rw c.in_ok-lane.was at (c.small-then-eq-2.ensures lane (decimal class ∷ more) fits.0 w.1) in
    let r1 = rw c.in_err-class.was at (c.small-then-eq-2-2.ensures class more fits.1 r0.1) in
    passed_on _ _ _ _ _ c.from_residual-in_err-class.ensures.1 r1
returns-in_err-class c object more fits e =
    absurd (misread _ _ _ _ (codes "cache") (object_words object ++ more) c.next-word.ensures c.eq-else-eq.ensures
    c.if-eq-2.true e refl refl)

pub returns-in_ok-class : goal.returns-in_ok-class
returns-in_ok-class c (Object.Cache lane class) more fits e =
    let w = c.next-word.ensures (codes "cache") (decimal lane ∷ decimal class ∷ more) refl e in
    let r0 = rw c.in_ok-lane.was at (c.small-then-eq-2.ensures lane (decimal class ∷ more) fits.0 w.1) in
    let r1 = rw c.in_ok-class.was at (c.small-then-eq-2-2.ensures class more fits.1 r0.1) in
    (λ k. Object.Cache (r0.0 k) (r1.0 k), r1.1)
returns-in_ok-class c object more fits e =
    absurd (misread _ _ _ _ (codes "cache") (object_words object ++ more) c.next-word.ensures c.eq-else-eq.ensures
    c.if-eq-2.true e refl refl)

pub returns-in_err-small-2 : goal.returns-in_err-small-2
returns-in_err-small-2 c (Object.Bin lane) more fits e =
    let w = c.next-word.ensures (codes "bin") (decimal lane ∷ more) refl e in
    let r0 = rw c.in_err-small-2.was at (c.small-then-eq-3.ensures lane more fits w.1) in
    passed_on _ _ _ _ _ c.from_residual-in_err-small-2.ensures.1 r0
returns-in_err-small-2 c object more fits e =
    absurd (misread _ _ _ _ (codes "bin") (object_words object ++ more) c.next-word.ensures c.eq-else-eq-2.ensures
    c.if-eq-3.true e refl refl)

pub returns-in_ok-small-2 : goal.returns-in_ok-small-2
returns-in_ok-small-2 c (Object.Bin lane) more fits e =
    let w = c.next-word.ensures (codes "bin") (decimal lane ∷ more) refl e in
    let r0 = rw c.in_ok-small-2.was at (c.small-then-eq-3.ensures lane more fits w.1) in
    (λ k. Object.Bin (r0.0 k), r0.1)
returns-in_ok-small-2 c object more fits e =
    absurd (misread _ _ _ _ (codes "bin") (object_words object ++ more) c.next-word.ensures c.eq-else-eq-2.ensures
    c.if-eq-3.true e refl refl)

pub returns-in_err-from : goal.returns-in_err-from
returns-in_err-from c (Object.Mail from to) more fits e =
    let w = c.next-word.ensures (codes "mail") (decimal from ∷ decimal to ∷ more) refl e in
    let r0 = rw c.in_err-from.was at (c.small-then-eq-4.ensures from (decimal to ∷ more) fits.0 w.1) in
    passed_on _ _ _ _ _ c.from_residual-in_err-from.ensures.1 r0
returns-in_err-from c object more fits e =
    absurd (misread _ _ _ _ (codes "mail") (object_words object ++ more) c.next-word.ensures c.eq-else-eq-3.ensures
    c.if-eq-4.true e refl refl)

pub returns-in_err-to : goal.returns-in_err-to
returns-in_err-to c (Object.Mail from to) more fits e =
    let w = c.next-word.ensures (codes "mail") (decimal from ∷ decimal to ∷ more) refl e in
    let r0 = rw c.in_ok-from.was at (c.small-then-eq-4.ensures from (decimal to ∷ more) fits.0 w.1) in
    let r1 = rw c.in_err-to.was at (c.small-then-eq-4-2.ensures to more fits.1 r0.1) in
    passed_on _ _ _ _ _ c.from_residual-in_err-to.ensures.1 r1
returns-in_err-to c object more fits e =
    absurd (misread _ _ _ _ (codes "mail") (object_words object ++ more) c.next-word.ensures c.eq-else-eq-3.ensures
    c.if-eq-4.true e refl refl)

pub returns-in_ok-to : goal.returns-in_ok-to
returns-in_ok-to c (Object.Mail from to) more fits e =
    let w = c.next-word.ensures (codes "mail") (decimal from ∷ decimal to ∷ more) refl e in
    let r0 = rw c.in_ok-from.was at (c.small-then-eq-4.ensures from (decimal to ∷ more) fits.0 w.1) in
    let r1 = rw c.in_ok-to.was at (c.small-then-eq-4-2.ensures to more fits.1 r0.1) in
    (λ k. Object.Mail (r0.0 k) (r1.0 k), r1.1)
returns-in_ok-to c object more fits e =
    absurd (misread _ _ _ _ (codes "mail") (object_words object ++ more) c.next-word.ensures c.eq-else-eq-3.ensures
    c.if-eq-4.true e refl refl)

pub returns-in_err-small-3 : goal.returns-in_err-small-3
returns-in_err-small-3 c (Object.Root place) more fits e =
    let w = c.next-word.ensures (codes "root") (decimal place ∷ more) refl e in
    let r0 = rw c.in_err-small-3.was at (c.small-then-eq-5.ensures place more fits w.1) in
    passed_on _ _ _ _ _ c.from_residual-in_err-small-3.ensures.1 r0
returns-in_err-small-3 c object more fits e =
    absurd (misread _ _ _ _ (codes "root") (object_words object ++ more) c.next-word.ensures c.eq-else-eq-4.ensures
    c.if-eq-5.true e refl refl)

pub returns-in_ok-small-3 : goal.returns-in_ok-small-3
returns-in_ok-small-3 c (Object.Root place) more fits e =
    let w = c.next-word.ensures (codes "root") (decimal place ∷ more) refl e in
    let r0 = rw c.in_ok-small-3.was at (c.small-then-eq-5.ensures place more fits w.1) in
    (λ k. Object.Root (r0.0 k), r0.1)
returns-in_ok-small-3 c object more fits e =
    absurd (misread _ _ _ _ (codes "root") (object_words object ++ more) c.next-word.ensures c.eq-else-eq-4.ensures
    c.if-eq-5.true e refl refl)

pub returns-else-eq-5 : goal.returns-else-eq-5
returns-else-eq-5 c (Object.Arena number) more fits e =
    absurd (unread _ _ _ _ (codes "arena") (object_words (Object.Arena number) ++ more) c.next-word.ensures
    c.eq.ensures c.if-eq.false e refl refl)
returns-else-eq-5 c (Object.Cache lane class) more fits e =
    absurd (unread _ _ _ _ (codes "cache") (object_words (Object.Cache lane class) ++ more) c.next-word.ensures
    c.eq-else-eq.ensures c.if-eq-2.false e refl refl)
returns-else-eq-5 c (Object.Bin lane) more fits e =
    absurd (unread _ _ _ _ (codes "bin") (object_words (Object.Bin lane) ++ more) c.next-word.ensures
    c.eq-else-eq-2.ensures c.if-eq-3.false e refl refl)
returns-else-eq-5 c (Object.Mail from to) more fits e =
    absurd (unread _ _ _ _ (codes "mail") (object_words (Object.Mail from to) ++ more) c.next-word.ensures
    c.eq-else-eq-3.ensures c.if-eq-4.false e refl refl)
returns-else-eq-5 c (Object.Root place) more fits e =
    absurd (unread _ _ _ _ (codes "root") (object_words (Object.Root place) ++ more) c.next-word.ensures
    c.eq-else-eq-4.ensures c.if-eq-5.false e refl refl)
