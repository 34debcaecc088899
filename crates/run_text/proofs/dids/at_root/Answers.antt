use Rattle.std.proofs.Common.{◌≡◌, ◌++◌, ◌∷◌, ◌∙◌, ℕ, List, codes, decimal, refl, sym, ap, subst}
use Rattle.pool_law.specs.Text.{did_words, shown_bytes, shown_place, spaced}
use Rattle.pool_law.specs.declared.id.RegionId.{RegionId}
use Rattle.pool_law.specs.declared.id.RootId.{RootId}
use Rattle.pool_law.specs.declared.note.Did.{Did}
use Rattle.run_text.specs.Told.{FitsDid, did_told}
use Rattle.run_text.proofs.DidLemmas.{Reading, did_first, did_word, only_birth, only_set, only_get, only_touch, only_room, only_extend, only_grow, only_end}
use Rattle.run_text.proofs.WordLemmas.{head, tail, is_text, passed_on, unread}
use Rattle.run_text.proofs.dids.at_root.Goals as goal

pub returns-in_err-offset : goal.returns-in_err-offset
returns-in_err-offset c = λ did more kind fits e.
    let f = c.next-word.ensures (head (did_words did)) (tail (did_words did) ++ more) (did_word did)
    (e ∙ ap spaced (did_first did more)) in
    let named = is_text c.eq.result c.next-word.result.now (codes "set") c.eq.ensures c.if-eq.true in
    only_set (Reading c.args.words.now.rest.now _ _ more) did (sym f.0 ∙ named)
    (λ offset bytes fits e.
    let w = c.next-word.ensures (codes "set") (decimal offset ∷ shown_bytes bytes ∷ more) refl e in
    let r0 = rw c.in_err-offset.was at (c.small.ensures offset (shown_bytes bytes ∷ more) fits.0 w.1) in
    passed_on _ _ _ _ _ c.from_residual.ensures.1 r0) fits e

pub returns-in_err-bytes : goal.returns-in_err-bytes
returns-in_err-bytes c = λ did more kind fits e.
    let f = c.next-word.ensures (head (did_words did)) (tail (did_words did) ++ more) (did_word did)
    (e ∙ ap spaced (did_first did more)) in
    let named = is_text c.eq.result c.next-word.result.now (codes "set") c.eq.ensures c.if-eq.true in
    only_set (Reading c.args.words.now.rest.now _ _ more) did (sym f.0 ∙ named)
    (λ offset bytes fits e.
    let w = c.next-word.ensures (codes "set") (decimal offset ∷ shown_bytes bytes ∷ more) refl e in
    let r0 = rw c.in_ok-offset.was at (c.small.ensures offset (shown_bytes bytes ∷ more) fits.0 w.1) in
    let r1 = rw c.in_err-bytes.was at (c.bytes.ensures bytes more fits.1 r0.1) in
    passed_on _ _ _ _ _ c.from_residual-in_err-bytes.ensures.1 r1) fits e

pub returns-in_ok-bytes : goal.returns-in_ok-bytes
returns-in_ok-bytes c = λ did more kind fits e.
    let f = c.next-word.ensures (head (did_words did)) (tail (did_words did) ++ more) (did_word did)
    (e ∙ ap spaced (did_first did more)) in
    let named = is_text c.eq.result c.next-word.result.now (codes "set") c.eq.ensures c.if-eq.true in
    let x = only_set (λ d. (offset : ℕ) × (bytes : List ℕ) × (d ≡ Did.Set offset bytes)) did (sym f.0 ∙ named)
    (λ offset bytes. (offset, bytes, refl)) in
    let offset = x.0 in
    let bytes = x.1 in
    let fits' = subst (λ (d : Did). FitsDid d) x.2 fits in
    let e' = e ∙ ap (λ (d : Did). spaced (did_words d ++ more)) x.2 in
    let w = c.next-word.ensures (codes "set") (decimal offset ∷ shown_bytes bytes ∷ more) refl e' in
    let r0 = rw c.in_ok-offset.was at (c.small.ensures offset (shown_bytes bytes ∷ more) fits'.0 w.1) in
    let r1 = rw c.in_ok-bytes.was at (c.bytes.ensures bytes more fits'.1 r0.1) in
    (sym (ap did_told x.2 ∙ (λ k. Did.Set (sym r0.0 k) (sym r1.0 k))), r1.1)

pub returns-in_err-offset-2 : goal.returns-in_err-offset-2
returns-in_err-offset-2 c = λ did more kind fits e.
    let f = c.next-word.ensures (head (did_words did)) (tail (did_words did) ++ more) (did_word did)
    (e ∙ ap spaced (did_first did more)) in
    let named = is_text c.eq-else-eq.result c.next-word.result.now (codes "get") c.eq-else-eq.ensures c.if-eq-2.true
    in
    only_get (Reading c.args.words.now.rest.now _ _ more) did (sym f.0 ∙ named)
    (λ offset bytes fits e.
    let w = c.next-word.ensures (codes "get") (decimal offset ∷ shown_bytes bytes ∷ more) refl e in
    let r0 = rw c.in_err-offset-2.was at (c.small-then-eq-2.ensures offset (shown_bytes bytes ∷ more) fits.0 w.1) in
    passed_on _ _ _ _ _ c.from_residual-in_err-offset-2.ensures.1 r0) fits e

pub returns-in_err-bytes-2 : goal.returns-in_err-bytes-2
returns-in_err-bytes-2 c = λ did more kind fits e.
    let f = c.next-word.ensures (head (did_words did)) (tail (did_words did) ++ more) (did_word did)
    (e ∙ ap spaced (did_first did more)) in
    let named = is_text c.eq-else-eq.result c.next-word.result.now (codes "get") c.eq-else-eq.ensures c.if-eq-2.true
    in
    only_get (Reading c.args.words.now.rest.now _ _ more) did (sym f.0 ∙ named)
    (λ offset bytes fits e.
    let w = c.next-word.ensures (codes "get") (decimal offset ∷ shown_bytes bytes ∷ more) refl e in
    let r0 = rw c.in_ok-offset-2.was at (c.small-then-eq-2.ensures offset (shown_bytes bytes ∷ more) fits.0 w.1) in
    let r1 = rw c.in_err-bytes-2.was at (c.bytes-then-eq-2.ensures bytes more fits.1 r0.1) in
    passed_on _ _ _ _ _ c.from_residual-in_err-bytes-2.ensures.1 r1) fits e

pub returns-in_ok-bytes-2 : goal.returns-in_ok-bytes-2
returns-in_ok-bytes-2 c = λ did more kind fits e.
    let f = c.next-word.ensures (head (did_words did)) (tail (did_words did) ++ more) (did_word did)
    (e ∙ ap spaced (did_first did more)) in
    let named = is_text c.eq-else-eq.result c.next-word.result.now (codes "get") c.eq-else-eq.ensures c.if-eq-2.true
    in
    let x = only_get (λ d. (offset : ℕ) × (bytes : List ℕ) × (d ≡ Did.Get offset bytes)) did (sym f.0 ∙ named)
    (λ offset bytes. (offset, bytes, refl)) in
    let offset = x.0 in
    let bytes = x.1 in
    let fits' = subst (λ (d : Did). FitsDid d) x.2 fits in
    let e' = e ∙ ap (λ (d : Did). spaced (did_words d ++ more)) x.2 in
    let w = c.next-word.ensures (codes "get") (decimal offset ∷ shown_bytes bytes ∷ more) refl e' in
    let r0 = rw c.in_ok-offset-2.was at (c.small-then-eq-2.ensures offset (shown_bytes bytes ∷ more) fits'.0 w.1) in
    let r1 = rw c.in_ok-bytes-2.was at (c.bytes-then-eq-2.ensures bytes more fits'.1 r0.1) in
    (sym (ap did_told x.2 ∙ (λ k. Did.Get (sym r0.0 k) (sym r1.0 k))), r1.1)

pub returns-then-eq-3 : goal.returns-then-eq-3
returns-then-eq-3 c = λ did more kind fits e.
    let f = c.next-word.ensures (head (did_words did)) (tail (did_words did) ++ more) (did_word did)
    (e ∙ ap spaced (did_first did more)) in
    let named = is_text c.eq-else-eq-2.result c.next-word.result.now (codes "touch") c.eq-else-eq-2.ensures
    c.if-eq-3.true in
    let is = only_touch (λ d. d ≡ Did.Touch) did (sym f.0 ∙ named) refl in
    let e' = e ∙ ap (λ (d : Did). spaced (did_words d ++ more)) is in
    (sym (ap did_told is), (c.next-word.ensures (codes "touch") more refl e').1)

pub returns-in_err-generation : goal.returns-in_err-generation
returns-in_err-generation c = λ did more kind fits e.
    let f = c.next-word.ensures (head (did_words did)) (tail (did_words did) ++ more) (did_word did)
    (e ∙ ap spaced (did_first did more)) in
    let named = is_text c.eq-else-eq-3.result c.next-word.result.now (codes "birth") c.eq-else-eq-3.ensures
    c.if-eq-4.true in
    only_birth (Reading c.args.words.now.rest.now _ _ more) did (sym f.0 ∙ named)
    (λ root region fits e.
    let w = c.next-word.ensures (codes "birth")
    (decimal root.generation ∷ shown_place region.place ∷ decimal region.taking ∷ decimal region.uses ∷ decimal
    root.capacity ∷ more) refl e in
    let r0 = rw c.in_err-generation.was
    at (c.small-then-eq-4.ensures root.generation
    (shown_place region.place ∷ decimal region.taking ∷ decimal region.uses ∷ decimal root.capacity ∷ more) fits.0
    w.1) in
    passed_on _ _ _ _ _ c.from_residual-in_err-generation.ensures.1 r0) fits e

pub returns-in_err-region : goal.returns-in_err-region
returns-in_err-region c = λ did more kind fits e.
    let f = c.next-word.ensures (head (did_words did)) (tail (did_words did) ++ more) (did_word did)
    (e ∙ ap spaced (did_first did more)) in
    let named = is_text c.eq-else-eq-3.result c.next-word.result.now (codes "birth") c.eq-else-eq-3.ensures
    c.if-eq-4.true in
    only_birth (Reading c.args.words.now.rest.now _ _ more) did (sym f.0 ∙ named)
    (λ root region fits e.
    let w = c.next-word.ensures (codes "birth")
    (decimal root.generation ∷ shown_place region.place ∷ decimal region.taking ∷ decimal region.uses ∷ decimal
    root.capacity ∷ more) refl e in
    let r0 = rw c.in_ok-generation.was
    at (c.small-then-eq-4.ensures root.generation
    (shown_place region.place ∷ decimal region.taking ∷ decimal region.uses ∷ decimal root.capacity ∷ more) fits.0
    w.1) in
    let r1 = rw c.in_err-region.was at (c.begun.ensures region root.capacity more fits.1 r0.1) in
    passed_on _ _ _ _ _ c.from_residual-in_err-region.ensures.1 r1) fits e

pub returns-in_ok-region : goal.returns-in_ok-region
returns-in_ok-region c = λ did more kind fits e.
    let f = c.next-word.ensures (head (did_words did)) (tail (did_words did) ++ more) (did_word did)
    (e ∙ ap spaced (did_first did more)) in
    let named = is_text c.eq-else-eq-3.result c.next-word.result.now (codes "birth") c.eq-else-eq-3.ensures
    c.if-eq-4.true in
    let x = only_birth (λ d. (root : RootId) × (region : RegionId) × (d ≡ Did.Birth root region)) did
    (sym f.0 ∙ named)
    (λ root region. (root, region, refl)) in
    let root = x.0 in
    let region = x.1 in
    let fits' = subst (λ (d : Did). FitsDid d) x.2 fits in
    let e' = e ∙ ap (λ (d : Did). spaced (did_words d ++ more)) x.2 in
    let w = c.next-word.ensures (codes "birth")
    (decimal root.generation ∷ shown_place region.place ∷ decimal region.taking ∷ decimal region.uses ∷ decimal
    root.capacity ∷ more) refl e' in
    let r0 = rw c.in_ok-generation.was
    at (c.small-then-eq-4.ensures root.generation
    (shown_place region.place ∷ decimal region.taking ∷ decimal region.uses ∷ decimal root.capacity ∷ more) fits'.0
    w.1) in
    let r1 = rw c.in_ok-region.was at (c.begun.ensures region root.capacity more fits'.1 r0.1) in (
      sym (ap did_told x.2
          ∙ (λ k. Did.Birth (record { place = 0; generation = sym r0.0 k; capacity = (sym r1.0 k).1 }) (sym r1.0 k).0)),
      r1.1,
    )

pub returns-in_err-asked : goal.returns-in_err-asked
returns-in_err-asked c = λ did more kind fits e.
    let f = c.next-word.ensures (head (did_words did)) (tail (did_words did) ++ more) (did_word did)
    (e ∙ ap spaced (did_first did more)) in
    let named = is_text c.eq-else-eq-4.result c.next-word.result.now (codes "room") c.eq-else-eq-4.ensures
    c.if-eq-5.true in
    only_room (Reading c.args.words.now.rest.now _ _ more) did (sym f.0 ∙ named)
    (λ asked capacity fits e.
    let w = c.next-word.ensures (codes "room") (decimal asked ∷ decimal capacity ∷ more) refl e in
    let r0 = rw c.in_err-asked.was at (c.small-then-eq-5.ensures asked (decimal capacity ∷ more) fits.0 w.1) in
    passed_on _ _ _ _ _ c.from_residual-in_err-asked.ensures.1 r0) fits e

pub returns-in_err-capacity : goal.returns-in_err-capacity
returns-in_err-capacity c = λ did more kind fits e.
    let f = c.next-word.ensures (head (did_words did)) (tail (did_words did) ++ more) (did_word did)
    (e ∙ ap spaced (did_first did more)) in
    let named = is_text c.eq-else-eq-4.result c.next-word.result.now (codes "room") c.eq-else-eq-4.ensures
    c.if-eq-5.true in
    only_room (Reading c.args.words.now.rest.now _ _ more) did (sym f.0 ∙ named)
    (λ asked capacity fits e.
    let w = c.next-word.ensures (codes "room") (decimal asked ∷ decimal capacity ∷ more) refl e in
    let r0 = rw c.in_ok-asked.was at (c.small-then-eq-5.ensures asked (decimal capacity ∷ more) fits.0 w.1) in
    let r1 = rw c.in_err-capacity.was at (c.small-then-eq-5-2.ensures capacity more fits.1 r0.1) in
    passed_on _ _ _ _ _ c.from_residual-in_err-capacity.ensures.1 r1) fits e

pub returns-in_ok-capacity : goal.returns-in_ok-capacity
returns-in_ok-capacity c = λ did more kind fits e.
    let f = c.next-word.ensures (head (did_words did)) (tail (did_words did) ++ more) (did_word did)
    (e ∙ ap spaced (did_first did more)) in
    let named = is_text c.eq-else-eq-4.result c.next-word.result.now (codes "room") c.eq-else-eq-4.ensures
    c.if-eq-5.true in
    let x = only_room (λ d. (asked : ℕ) × (capacity : ℕ) × (d ≡ Did.Room asked capacity)) did (sym f.0 ∙ named)
    (λ asked capacity. (asked, capacity, refl)) in
    let asked = x.0 in
    let capacity = x.1 in
    let fits' = subst (λ (d : Did). FitsDid d) x.2 fits in
    let e' = e ∙ ap (λ (d : Did). spaced (did_words d ++ more)) x.2 in
    let w = c.next-word.ensures (codes "room") (decimal asked ∷ decimal capacity ∷ more) refl e' in
    let r0 = rw c.in_ok-asked.was at (c.small-then-eq-5.ensures asked (decimal capacity ∷ more) fits'.0 w.1) in
    let r1 = rw c.in_ok-capacity.was at (c.small-then-eq-5-2.ensures capacity more fits'.1 r0.1) in
    (sym (ap did_told x.2 ∙ (λ k. Did.Room (sym r0.0 k) (sym r1.0 k))), r1.1)

pub returns-in_err-size : goal.returns-in_err-size
returns-in_err-size c = λ did more kind fits e.
    let f = c.next-word.ensures (head (did_words did)) (tail (did_words did) ++ more) (did_word did)
    (e ∙ ap spaced (did_first did more)) in
    let named = is_text c.eq-else-eq-5.result c.next-word.result.now (codes "extend") c.eq-else-eq-5.ensures
    c.if-eq-6.true in
    only_extend (Reading c.args.words.now.rest.now _ _ more) did (sym f.0 ∙ named)
    (λ size fits e.
    let w = c.next-word.ensures (codes "extend") (decimal size ∷ more) refl e in
    let r0 = rw c.in_err-size.was at (c.small-then-eq-6.ensures size more fits w.1) in
    passed_on _ _ _ _ _ c.from_residual-in_err-size.ensures.1 r0) fits e

pub returns-in_ok-size : goal.returns-in_ok-size
returns-in_ok-size c = λ did more kind fits e.
    let f = c.next-word.ensures (head (did_words did)) (tail (did_words did) ++ more) (did_word did)
    (e ∙ ap spaced (did_first did more)) in
    let named = is_text c.eq-else-eq-5.result c.next-word.result.now (codes "extend") c.eq-else-eq-5.ensures
    c.if-eq-6.true in
    let x = only_extend (λ d. (size : ℕ) × (d ≡ Did.Extend size)) did (sym f.0 ∙ named)
    (λ size. (size, refl)) in
    let size = x.0 in
    let fits' = subst (λ (d : Did). FitsDid d) x.1 fits in
    let e' = e ∙ ap (λ (d : Did). spaced (did_words d ++ more)) x.1 in
    let w = c.next-word.ensures (codes "extend") (decimal size ∷ more) refl e' in
    let r0 = rw c.in_ok-size.was at (c.small-then-eq-6.ensures size more fits' w.1) in
    (sym (ap did_told x.1 ∙ (λ k. Did.Extend (sym r0.0 k))), r0.1)

pub returns-in_err-region-2 : goal.returns-in_err-region-2
returns-in_err-region-2 c = λ did more kind fits e.
    let f = c.next-word.ensures (head (did_words did)) (tail (did_words did) ++ more) (did_word did)
    (e ∙ ap spaced (did_first did more)) in
    let named = is_text c.eq-else-eq-6.result c.next-word.result.now (codes "grow") c.eq-else-eq-6.ensures
    c.if-eq-7.true in
    only_grow (Reading c.args.words.now.rest.now _ _ more) did (sym f.0 ∙ named)
    (λ capacity region fits e.
    let w = c.next-word.ensures (codes "grow")
    (shown_place region.place ∷ decimal region.taking ∷ decimal region.uses ∷ decimal capacity ∷ more) refl e in
    let r0 = rw c.in_err-region-2.was at (c.begun-then-eq-7.ensures region capacity more fits w.1) in
    passed_on _ _ _ _ _ c.from_residual-in_err-region-2.ensures.1 r0) fits e

pub returns-in_ok-region-2 : goal.returns-in_ok-region-2
returns-in_ok-region-2 c = λ did more kind fits e.
    let f = c.next-word.ensures (head (did_words did)) (tail (did_words did) ++ more) (did_word did)
    (e ∙ ap spaced (did_first did more)) in
    let named = is_text c.eq-else-eq-6.result c.next-word.result.now (codes "grow") c.eq-else-eq-6.ensures
    c.if-eq-7.true in
    let x = only_grow (λ d. (capacity : ℕ) × (region : RegionId) × (d ≡ Did.Grow capacity region)) did
    (sym f.0 ∙ named)
    (λ capacity region. (capacity, region, refl)) in
    let capacity = x.0 in
    let region = x.1 in
    let fits' = subst (λ (d : Did). FitsDid d) x.2 fits in
    let e' = e ∙ ap (λ (d : Did). spaced (did_words d ++ more)) x.2 in
    let w = c.next-word.ensures (codes "grow")
    (shown_place region.place ∷ decimal region.taking ∷ decimal region.uses ∷ decimal capacity ∷ more) refl e' in
    let r0 = rw c.in_ok-region-2.was at (c.begun-then-eq-7.ensures region capacity more fits' w.1) in
    (sym (ap did_told x.2 ∙ (λ k. Did.Grow (sym r0.0 k).1 (sym r0.0 k).0)), r0.1)

pub returns-in_err-generation-2 : goal.returns-in_err-generation-2
returns-in_err-generation-2 c = λ did more kind fits e.
    let f = c.next-word.ensures (head (did_words did)) (tail (did_words did) ++ more) (did_word did)
    (e ∙ ap spaced (did_first did more)) in
    let named = is_text c.eq-else-eq-7.result c.next-word.result.now (codes "end") c.eq-else-eq-7.ensures
    c.if-eq-8.true in
    only_end (Reading c.args.words.now.rest.now _ _ more) did (sym f.0 ∙ named)
    (λ root fits e.
    let w = c.next-word.ensures (codes "end") (decimal root.generation ∷ more) refl e in
    let r0 = rw c.in_err-generation-2.was at (c.small-then-eq-8.ensures root.generation more fits w.1) in
    passed_on _ _ _ _ _ c.from_residual-in_err-generation-2.ensures.1 r0) fits e

pub returns-in_ok-generation-2 : goal.returns-in_ok-generation-2
returns-in_ok-generation-2 c = λ did more kind fits e.
    let f = c.next-word.ensures (head (did_words did)) (tail (did_words did) ++ more) (did_word did)
    (e ∙ ap spaced (did_first did more)) in
    let named = is_text c.eq-else-eq-7.result c.next-word.result.now (codes "end") c.eq-else-eq-7.ensures
    c.if-eq-8.true in
    let x = only_end (λ d. (root : RootId) × (d ≡ Did.End root)) did (sym f.0 ∙ named)
    (λ root. (root, refl)) in
    let root = x.0 in
    let fits' = subst (λ (d : Did). FitsDid d) x.1 fits in
    let e' = e ∙ ap (λ (d : Did). spaced (did_words d ++ more)) x.1 in
    let w = c.next-word.ensures (codes "end") (decimal root.generation ∷ more) refl e' in
    let r0 = rw c.in_ok-generation-2.was at (c.small-then-eq-8.ensures root.generation more fits' w.1) in
    (sym (ap did_told x.1 ∙ (λ k. Did.End (record { place = 0; generation = sym r0.0 k; capacity = 0 }))), r0.1)

pub returns-else-eq-8 : goal.returns-else-eq-8
returns-else-eq-8 c (Did.Set offset bytes) more kind fits e =
    absurd (unread _ _ _ _ (codes "set") (did_words (Did.Set offset bytes) ++ more) c.next-word.ensures
    c.eq.ensures c.if-eq.false e refl refl)
returns-else-eq-8 c (Did.Get offset bytes) more kind fits e =
    absurd (unread _ _ _ _ (codes "get") (did_words (Did.Get offset bytes) ++ more) c.next-word.ensures
    c.eq-else-eq.ensures c.if-eq-2.false e refl refl)
returns-else-eq-8 c Did.Touch more kind fits e =
    absurd (unread _ _ _ _ (codes "touch") (did_words Did.Touch ++ more) c.next-word.ensures
    c.eq-else-eq-2.ensures c.if-eq-3.false e refl refl)
returns-else-eq-8 c (Did.Birth root region) more kind fits e =
    absurd (unread _ _ _ _ (codes "birth") (did_words (Did.Birth root region) ++ more) c.next-word.ensures
    c.eq-else-eq-3.ensures c.if-eq-4.false e refl refl)
returns-else-eq-8 c (Did.Room asked capacity) more kind fits e =
    absurd (unread _ _ _ _ (codes "room") (did_words (Did.Room asked capacity) ++ more) c.next-word.ensures
    c.eq-else-eq-4.ensures c.if-eq-5.false e refl refl)
returns-else-eq-8 c (Did.Extend size) more kind fits e =
    absurd (unread _ _ _ _ (codes "extend") (did_words (Did.Extend size) ++ more) c.next-word.ensures
    c.eq-else-eq-5.ensures c.if-eq-6.false e refl refl)
returns-else-eq-8 c (Did.Grow capacity region) more kind fits e =
    absurd (unread _ _ _ _ (codes "grow") (did_words (Did.Grow capacity region) ++ more) c.next-word.ensures
    c.eq-else-eq-6.ensures c.if-eq-7.false e refl refl)
returns-else-eq-8 c (Did.End root) more kind fits e =
    absurd (unread _ _ _ _ (codes "end") (did_words (Did.End root) ++ more) c.next-word.ensures
    c.eq-else-eq-7.ensures c.if-eq-8.false e refl refl)
returns-else-eq-8 c did more kind fits e = absurd (cc)
