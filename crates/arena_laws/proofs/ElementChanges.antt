-- What a change of a subpage's elements does to the slots of its chunk.
use Rattle.std.proofs.Common.{⊎_elim, ◌≡◌, ◌≢◌, inl, inr, ℕ, zero, suc, ◌+◌, ◌-◌, ◌*◌, ◌<◌, ◌≤◌, List, [], ◌∷◌, length, refl, sym, ap, subst, arith, Bool, true, false, Some, None, ◌∙◌}
use Rattle.std.proofs.lemmas.List.Quantifiers.{position-Some}
use Rattle.std.specs.Prelude.{not, get_or, ◌⊎◌, slice_get, Option, unwrap_or}
use Rattle.size_classes.specs.Sizes.{Geometry, page_of, size_at}
use Rattle.size_classes.specs.Pages.{Run, Used, pages_in, total_pages, replaced}
use Rattle.size_classes.specs.Runs.{Begins}
use Rattle.size_classes.specs.Elements.{Elements, next_element, first_free, first_of_two}
use Rattle.size_classes.proofs.Runs.{Begins-one, EachRun-Begins, replaced-keeps, replaced-new, replaced-EachRun, replaced-total}
use Rattle.pool_law.specs.declared.id.RegionId.{RegionId}
use Rattle.pool_law.specs.Chunks.{Chunk, Use, Whole, Sub, RemembersFree}
use Rattle.arena_laws.specs.Slots.{IsElement, IsSlot, ElementsFit, IsSound}
use Rattle.pool_law.proofs.ListLemmas.{slice_get-below}
use Rattle.arena_laws.proofs.SlotLemmas.{three, times-next}
use Rattle.arena_laws.proofs.ChunkSteps.{size_at-pos, EachRun-NoneEmpty, NoneEmpty-EachRun, one-page, Starts, pages-pos, starts, Keeps, same_or-not}

-- a subpage gets other elements
abbrev pub elements_to : ℕ → Elements → Run Use → List (Run Use)
elements_to class e r = Used (pages_in r) (Sub class e) ∷ []

module _ (g : Geometry) (chunk : Chunk) (sound : IsSound g chunk) (page m class : ℕ) (e f : Elements)
    (here : Begins page (Used m (Sub class e)) chunk) (as_many : length f.out ≡ length e.out)
    (good : RemembersFree f f.remembered) where
  pub elements-fit : ElementsFit g (Used m (Sub class f))
  elements-fit =
      let old : ElementsFit g (Used m (Sub class e)) =
      EachRun-Begins (ElementsFit g) chunk page (Used m (Sub class e)) sound.elements_fit here in
      (rw as_many old.0, good)

  pub elements-total : total_pages (replaced page (elements_to class f) chunk) ≡ total_pages chunk
  elements-total =
      replaced-total chunk page (elements_to class f) (Used m (Sub class e)) sound.none_empty here (omega arith)

  pub elements-sound : IsSound g (replaced page (elements_to class f) chunk)
  elements-sound =
      record {
        none_empty =
            NoneEmpty-EachRun (replaced page (elements_to class f) chunk)
            (replaced-EachRun (λ r. 0 < pages_in r) chunk page (elements_to class f) (Used m (Sub class e))
            sound.none_empty here
            (pages-pos g chunk sound page (Used m (Sub class e)) here, tt)
            (EachRun-NoneEmpty chunk sound.none_empty));
        page = sound.page;
        elements_fit =
            replaced-EachRun (ElementsFit g) chunk page (elements_to class f) (Used m (Sub class e)) sound.none_empty
            here
            (elements-fit, tt)
            sound.elements_fit;
      }

  pub elements-here : Begins page (Used m (Sub class f)) (replaced page (elements_to class f) chunk)
  elements-here =
      subst (λ k. Begins k (Used m (Sub class f)) (replaced page (elements_to class f) chunk)) (omega arith)
      (replaced-new chunk page 0 (elements_to class f) (Used m (Sub class e)) (Used m (Sub class f)) sound.none_empty
      here (inl (refl, refl)))

  pub elements-elsewhere : (p n : ℕ) (w : Use) → p ≢ page → Begins p (Used n w) chunk
      → Begins p (Used n w) (replaced page (elements_to class f) chunk)
  elements-elsewhere p n w other b =
      replaced-keeps chunk page p (elements_to class f) (Used m (Sub class e)) (Used n w) sound.none_empty here
      (omega arith) b other

  -- an element of this subpage that is still out
  abbrev pub StillOut : RegionId → Type 0
  StillOut r = (x : IsElement g chunk r) → x.page ≡ page → slice_get f.out x.at ≡ Some true

  pub run-here : (p n : ℕ) (w : Use) → p ≡ page → Begins p (Used n w) chunk → Used n w ≡ Used m (Sub class e)
  run-here p n w same b =
      Begins-one chunk page (Used n w) (Used m (Sub class e)) sound.none_empty
      (subst (λ k. Begins k (Used n w) chunk) same b) here

  pub element-moved : (r : RegionId) → (s : IsElement g chunk r) → slice_get f.out s.at ≡ Some true → s.page ≡ page
      → IsElement g (replaced page (elements_to class f) chunk) r
  element-moved r s out same =
      let run : Used s.pages (Sub r.class s.elements)
      ≡ Used m (Sub class e) = run-here s.page s.pages (Sub r.class s.elements) same s.begins in
      let classes : class ≡ r.class = cc run in
      record {
        page = page;
        pages = m;
        elements = f;
        at = s.at;
        starts = s.starts ∙ ap (λ p. page_of g * p + s.at * size_at r.class) same;
        ends = s.ends;
        out = out;
        kind = s.kind;
        begins =
            subst (λ c. Begins page (Used m (Sub c f)) (replaced page (elements_to class f) chunk)) classes
            elements-here;
      }

  pub elements-slots : (r : RegionId) → StillOut r → IsSlot g chunk r
      → IsSlot g (replaced page (elements_to class f) chunk) r
  elements-slots r still (inl s) =
      inl (record {
        page = s.page;
        pages = s.pages;
        starts = s.starts;
        ends = s.ends;
        kind = s.kind;
        begins =
            elements-elsewhere s.page s.pages Whole (λ same. cc (run-here s.page s.pages Whole same s.begins)) s.begins;
      })
  elements-slots r still (inr s) =
      ⊎_elim
      (λ same. inr (element-moved r s (still s same) same))
      (λ other. inr (record {
        page = s.page;
        pages = s.pages;
        elements = s.elements;
        at = s.at;
        starts = s.starts;
        ends = s.ends;
        out = s.out;
        kind = s.kind;
        begins = elements-elsewhere s.page s.pages (Sub r.class s.elements) other s.begins;
      }))
      (same_or-not s.page page)

  pub elements-keeps : Keeps g chunk (replaced page (elements_to class f) chunk) StillOut
  elements-keeps = record { sound = elements-sound; total = elements-total; slots = elements-slots }

-- the element that is handed out next is not out
got-false : (bs : List Bool) (k : ℕ) → k < length bs → not (get_or bs k true) ≡ true → slice_get bs k ≡ Some false
got-false [] k h e = absurd (omega arith)
got-false (true ∷ bs) zero h e = absurd (cc e)
got-false (false ∷ bs) zero h e = refl
got-false (b ∷ bs) (suc k) h e = got-false bs k (omega (arith, h)) e

pub first_free-is : (bs : List Bool) (k : ℕ) → first_free bs ≡ Some k → slice_get bs k ≡ Some false
first_free-is bs k h = let found = position-Some not bs k true h in got-false bs k found.0 found.1

pub unwrap-false : (bs : List Bool) (k : ℕ) → k < length bs → unwrap_or (slice_get bs k) false ≡ false
    → slice_get bs k ≡ Some false
unwrap-false [] k h e = absurd (omega arith)
unwrap-false (b ∷ bs) zero h e = ap Some e
unwrap-false (b ∷ bs) (suc k) h e = unwrap-false bs k (omega arith) e

pub next_element-is : (e : Elements) (k : ℕ) → RemembersFree e e.remembered → next_element e ≡ Some k
    → slice_get e.out k ≡ Some false
next_element-is e k good h = go e.remembered good h
  where
    go : (o : Option ℕ) → RemembersFree e o → first_of_two o (first_free e.out) ≡ Some k
        → slice_get e.out k ≡ Some false
    go None free is = first_free-is e.out k is
    go (Some j) free is =
        let same : j ≡ k = cc is in
        subst (λ n. slice_get e.out n ≡ Some false) same (unwrap-false e.out j free.0 free.1)

-- places of elements of one size are different where their numbers are
pub times-one : (k j s : ℕ) → 0 < s → k * s ≡ j * s → k ≡ j
times-one k j s pos e =
    ⊎_elim (λ lt. absurd (omega (arith, times-next k j s lt)))
    (λ rest. ⊎_elim (λ same. same) (λ gt. absurd (omega (arith, times-next j k s gt))) rest) (three k j)

module _ (g : Geometry) (chunk : Chunk) (sound : IsSound g chunk) (page m class : ℕ) (e : Elements)
    (here : Begins page (Used m (Sub class e)) chunk) where
  -- a slot at an element's first byte is this element
  pub element-at : (r : RegionId) → (x : IsSlot g chunk r) → (k : ℕ) → k < length e.out
      → r.place.offset ≡ page_of g * page + k * size_at class →
      (s : IsElement g chunk r) × (x ≡ inr s) × (s.page ≡ page) × (s.at ≡ k) × (r.class ≡ class) × (s.elements ≡ e)
  element-at r x k below is = go x (at_page x)
    where
      inside : k * size_at class < page_of g * m
      inside =
          let fits : length e.out * size_at class ≤ page_of g * m =
          (EachRun-Begins (ElementsFit g) chunk page (Used m (Sub class e)) sound.elements_fit here).0 in
          omega (arith, times-next k (length e.out) (size_at class) below, size_at-pos class)

      at_page : (y : IsSlot g chunk r) → (starts g chunk sound r y).page ≡ page
      at_page y =
          let s : Starts g chunk r = starts g chunk sound r y in
          one-page g chunk s.page s.pages page m s.from (k * size_at class) (Used s.pages s.what) (Used m (Sub class e))
          s.begins here refl refl (omega (arith, s.starts, is)) s.inside inside

      go : (y : IsSlot g chunk r) → (starts g chunk sound r y).page ≡ page →
          (s : IsElement g chunk r) × (y ≡ inr s) × (s.page ≡ page) × (s.at ≡ k) × (r.class ≡ class) × (s.elements ≡ e)
      go (inl s) same =
          absurd (cc (Begins-one chunk page (Used s.pages Whole) (Used m (Sub class e)) sound.none_empty
          (subst (λ p. Begins p (Used s.pages Whole) chunk) same s.begins) here))
      go (inr s) same =
          let run : Used s.pages (Sub r.class s.elements)
          ≡ Used m (Sub class e) =
          Begins-one chunk page (Used s.pages (Sub r.class s.elements)) (Used m (Sub class e)) sound.none_empty
          (subst (λ p. Begins p (Used s.pages (Sub r.class s.elements)) chunk) same s.begins) here in
          let classes : r.class ≡ class = cc run in
          let elements : s.elements ≡ e = cc run in
          let product : s.at * size_at class ≡ k * size_at class =
          (let eq : page_of g * page + s.at * size_at class
          ≡ page_of g * page + k * size_at class =
          sym (s.starts ∙ ap (λ p. page_of g * p + s.at * size_at r.class) same
          ∙ ap (λ c. page_of g * page + s.at * size_at c) classes) ∙ is in omega (arith, eq)) in
          (s, refl, same, times-one s.at k (size_at class) (size_at-pos class) product, classes, elements)

  -- no slot lay at an element that was not out
  pub element-fresh : (k : ℕ) → slice_get e.out k ≡ Some false → (r : RegionId) → IsSlot g chunk r
      → r.place.offset ≢ page_of g * page + k * size_at class
  element-fresh k free r x is =
      let found : (s : IsElement g chunk r) × (x ≡ inr s) × (s.page ≡ page) × (s.at ≡ k) × (r.class ≡ class)
      × (s.elements ≡ e) = element-at r x k (slice_get-below e.out k false free) is in
      let out : slice_get e.out k ≡ Some true = subst (λ f. slice_get f.out k ≡ Some true) found.5
      (subst (λ j. slice_get found.0.elements.out j ≡ Some true) found.3 found.0.out) in
      let both : Some true ≡ Some false = sym out ∙ free in
      cc both
