use Rattle.std.proofs.Common.{◌++◌, ◌∷◌, codes, decimal, refl}
use Rattle.pool_law.specs.Text.{did_words, plus}
use Rattle.pool_law.specs.declared.note.Did.{Did}
use Rattle.run_text.proofs.WordLemmas.{misread, unread, passed_on}
use Rattle.run_text.proofs.dids.at_arena.Goals as goal

pub returns-in_err-class : goal.returns-in_err-class
returns-in_err-class c (Did.Take class region) more kind fits e =
    let w = c.next-word.ensures (codes "take")
    (decimal class ∷ plus region.place.chunk region.place.offset ∷ decimal region.taking ∷ more) refl e in
    let r0 = rw c.in_err-class.was
    at (c.small.ensures class (plus region.place.chunk region.place.offset ∷ decimal region.taking ∷ more) fits.0
    w.1) in
    passed_on _ _ _ _ _ c.from_residual.ensures.1 r0
returns-in_err-class c did more kind fits e =
    absurd (misread _ _ _ _ (codes "take") (did_words did ++ more) c.next-word.ensures c.eq.ensures
    c.if-eq.true e refl refl)

pub returns-in_err-region : goal.returns-in_err-region
returns-in_err-region c (Did.Take class region) more kind fits e =
    let w = c.next-word.ensures (codes "take")
    (decimal class ∷ plus region.place.chunk region.place.offset ∷ decimal region.taking ∷ more) refl e in
    let r0 = rw c.in_ok-class.was
    at (c.small.ensures class (plus region.place.chunk region.place.offset ∷ decimal region.taking ∷ more) fits.0
    w.1) in
    let r1 = rw c.in_err-region.was at (c.spot.ensures region more fits.1 r0.1) in
    passed_on _ _ _ _ _ c.from_residual-in_err-region.ensures.1 r1
returns-in_err-region c did more kind fits e =
    absurd (misread _ _ _ _ (codes "take") (did_words did ++ more) c.next-word.ensures c.eq.ensures
    c.if-eq.true e refl refl)

pub returns-in_ok-region : goal.returns-in_ok-region
returns-in_ok-region c (Did.Take class region) more kind fits e =
    let w = c.next-word.ensures (codes "take")
    (decimal class ∷ plus region.place.chunk region.place.offset ∷ decimal region.taking ∷ more) refl e in
    let r0 = rw c.in_ok-class.was
    at (c.small.ensures class (plus region.place.chunk region.place.offset ∷ decimal region.taking ∷ more) fits.0
    w.1) in
    let r1 = rw c.in_ok-region.was at (c.spot.ensures region more fits.1 r0.1) in
    (λ k. Did.Take (r0.0 k) (r1.0 k), r1.1)
returns-in_ok-region c did more kind fits e =
    absurd (misread _ _ _ _ (codes "take") (did_words did ++ more) c.next-word.ensures c.eq.ensures
    c.if-eq.true e refl refl)

pub returns-in_err-class-2 : goal.returns-in_err-class-2
returns-in_err-class-2 c (Did.Full class) more kind fits e =
    let w = c.next-word.ensures (codes "full") (decimal class ∷ more) refl e in
    let r0 = rw c.in_err-class-2.was at (c.small-then-eq-2.ensures class more fits w.1) in
    passed_on _ _ _ _ _ c.from_residual-in_err-class-2.ensures.1 r0
returns-in_err-class-2 c did more kind fits e =
    absurd (misread _ _ _ _ (codes "full") (did_words did ++ more) c.next-word.ensures c.eq-else-eq.ensures
    c.if-eq-2.true e refl refl)

pub returns-in_ok-class-2 : goal.returns-in_ok-class-2
returns-in_ok-class-2 c (Did.Full class) more kind fits e =
    let w = c.next-word.ensures (codes "full") (decimal class ∷ more) refl e in
    let r0 = rw c.in_ok-class-2.was at (c.small-then-eq-2.ensures class more fits w.1) in
    (λ k. Did.Full (r0.0 k), r0.1)
returns-in_ok-class-2 c did more kind fits e =
    absurd (misread _ _ _ _ (codes "full") (did_words did ++ more) c.next-word.ensures c.eq-else-eq.ensures
    c.if-eq-2.true e refl refl)

pub returns-in_err-region-2 : goal.returns-in_err-region-2
returns-in_err-region-2 c (Did.Give region) more kind fits e =
    let w = c.next-word.ensures (codes "give")
    (plus region.place.chunk region.place.offset ∷ decimal region.taking ∷ more) refl e in
    let r0 = rw c.in_err-region-2.was at (c.spot-then-eq-3.ensures region more fits w.1) in
    passed_on _ _ _ _ _ c.from_residual-in_err-region-2.ensures.1 r0
returns-in_err-region-2 c did more kind fits e =
    absurd (misread _ _ _ _ (codes "give") (did_words did ++ more) c.next-word.ensures c.eq-else-eq-2.ensures
    c.if-eq-3.true e refl refl)

pub returns-in_ok-region-2 : goal.returns-in_ok-region-2
returns-in_ok-region-2 c (Did.Give region) more kind fits e =
    let w = c.next-word.ensures (codes "give")
    (plus region.place.chunk region.place.offset ∷ decimal region.taking ∷ more) refl e in
    let r0 = rw c.in_ok-region-2.was at (c.spot-then-eq-3.ensures region more fits w.1) in
    (λ k. Did.Give (r0.0 k), r0.1)
returns-in_ok-region-2 c did more kind fits e =
    absurd (misread _ _ _ _ (codes "give") (did_words did ++ more) c.next-word.ensures c.eq-else-eq-2.ensures
    c.if-eq-3.true e refl refl)

pub returns-else-eq-3 : goal.returns-else-eq-3
returns-else-eq-3 c (Did.Take class region) more kind fits e =
    absurd (unread _ _ _ _ (codes "take") (did_words (Did.Take class region) ++ more) c.next-word.ensures
    c.eq.ensures c.if-eq.false e refl refl)
returns-else-eq-3 c (Did.Full class) more kind fits e =
    absurd (unread _ _ _ _ (codes "full") (did_words (Did.Full class) ++ more) c.next-word.ensures
    c.eq-else-eq.ensures c.if-eq-2.false e refl refl)
returns-else-eq-3 c (Did.Give region) more kind fits e =
    absurd (unread _ _ _ _ (codes "give") (did_words (Did.Give region) ++ more) c.next-word.ensures
    c.eq-else-eq-2.ensures c.if-eq-3.false e refl refl)
returns-else-eq-3 c did more kind fits e = absurd (cc)
