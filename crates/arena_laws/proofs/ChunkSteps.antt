-- What a taking and a giving do to the slots of one chunk.
use Rattle.std.proofs.Common.{⊎_elim, ◌≡◌, ◌≢◌, inl, inr, ℕ, ◌+◌, ◌-◌, ◌*◌, ◌<◌, ◌≤◌, [], ◌∷◌, refl, subst, arith, ◌∙◌}
use Rattle.std.proofs.Math.Nat.{mul-pos}
use Rattle.std.specs.Prelude.{not, ◌/◌, ◌%◌, ◌^◌, nat_lt, ◌⊎◌}
use Rattle.size_classes.specs.Sizes.{Geometry, page_of, size_at}
use Rattle.size_classes.specs.Pages.{Run, Free, Used, pages_in, total_pages, NoneEmpty, taken_at, given_at, replaced, front_used, freed, rest_of}
use Rattle.size_classes.specs.Runs.{Begins, EachRun}
use Rattle.size_classes.proofs.SmallClasses.{page-some}
use Rattle.size_classes.proofs.Runs.{Begins-apart, EachRun-Begins, replaced-keeps, replaced-EachRun, replaced-total, merged-keeps, merged-total, merged-NoneEmpty, merged-EachRun, rest_of-total, rest_of-EachRun, rest_of-NoneEmpty, taken_at-keeps, free-unused}
use Rattle.pool_law.specs.declared.id.RegionId.{RegionId}
use Rattle.pool_law.specs.Chunks.{Chunk, Use, Whole, Sub}
use Rattle.arena_laws.specs.Slots.{IsSlot, ElementsFit, IsSound}
use Rattle.arena_laws.proofs.SlotLemmas.{three, element-inside, pages-below}
use Rattle.std.proofs.lemmas.Bool.{cond_both}
use lib.Pow.{pow_pos}

-- every class has a size
pub size_at-pos : (class : ℕ) → 0 < size_at class
size_at-pos class =
    cond_both (nat_lt class 4) (16 * (class + 1))
    (2 ^ (6 + (class - 4) / 4) + ((class - 4) % 4 + 1) * 2 ^ (4 + (class - 4) / 4)) (λ n. 0 < n) (λ _. omega arith)
    (λ _. omega (arith, pow_pos (6 + (class - 4) / 4)))

-- no run is empty, said of each run
pub EachRun-NoneEmpty : (rs : Chunk) → NoneEmpty rs → EachRun (λ r. 0 < pages_in r) rs
EachRun-NoneEmpty [] h = tt
EachRun-NoneEmpty (r ∷ rs) h = (h.0, EachRun-NoneEmpty rs h.1)

pub NoneEmpty-EachRun : (rs : Chunk) → EachRun (λ r. 0 < pages_in r) rs → NoneEmpty rs
NoneEmpty-EachRun [] h = tt
NoneEmpty-EachRun (r ∷ rs) h = (h.0, NoneEmpty-EachRun rs h.1)

-- a byte in two runs of a chunk is in one
pub one-page : (g : Geometry) (chunk : Chunk) (p m q n x y : ℕ) (v w : Run Use) → Begins p v chunk → Begins q w chunk
    → pages_in v ≡ m → pages_in w ≡ n →
    page_of g * p + x ≡ page_of g * q + y → x < page_of g * m → y < page_of g * n → p ≡ q
one-page g chunk p m q n x y v w b c pm pn e hx hy =
    ⊎_elim
    (λ lt. let before : page_of g * p + page_of g * m ≤ page_of g * q =
    pages-below (page_of g) p m q (subst (λ (k : ℕ). p + k ≤ q) pm (Begins-apart chunk p q v w b c lt)) in
    absurd (omega (arith, before, e, hx)))
    (λ rest. ⊎_elim (λ same. same)
    (λ gt. let before : page_of g * q + page_of g * n ≤ page_of g * p =
    pages-below (page_of g) q n p (subst (λ (k : ℕ). q + k ≤ p) pn (Begins-apart chunk q p w v c b gt)) in
    absurd (omega (arith, before, e, hy))) rest)
    (three p q)

-- where a slot begins in its run
pub record Starts (g : Geometry) (chunk : Chunk) (r : RegionId) : Type 0 where
  pub page : ℕ
  pub pages : ℕ
  pub what : Use
  pub from : ℕ
  pub starts : r.place.offset ≡ page_of g * page + from
  pub inside : from < page_of g * pages
  pub begins : Begins page (Used pages what) chunk

module _ (g : Geometry) (chunk : Chunk) (sound : IsSound g chunk) where
  pub pages-pos : (p : ℕ) (r : Run Use) → Begins p r chunk → 0 < pages_in r
  pages-pos p r b = EachRun-Begins (λ r. 0 < pages_in r) chunk p r (EachRun-NoneEmpty chunk sound.none_empty) b

  abbrev pub starts : (r : RegionId) → IsSlot g chunk r → Starts g chunk r
  starts r (inl s) =
      record {
        page = s.page;
        pages = s.pages;
        what = Whole;
        from = 0;
        starts = omega (arith, s.starts);
        inside = mul-pos (page-some g sound.page) (pages-pos s.page (Used s.pages Whole) s.begins);
        begins = s.begins;
      }
  starts r (inr s) =
      record {
        page = s.page;
        pages = s.pages;
        what = Sub r.class s.elements;
        from = s.at * size_at r.class;
        starts = s.starts;
        inside = omega (arith, element-inside g chunk sound r s, size_at-pos r.class);
        begins = s.begins;
      }

-- what a change of a chunk leaves: it is sound, covers as many pages, and keeps the slots that a fact allows
pub record Keeps (g : Geometry) (old new : Chunk) (P : RegionId → Type 0) : Type 0 where
  pub sound : IsSound g new
  pub total : total_pages new ≡ total_pages old
  pub slots : (r : RegionId) → P r → IsSlot g old r → IsSlot g new r

abbrev pub Always : RegionId → Type 0
Always r = Unit {0}

-- a taking of pages at the front of a free run
module _ (g : Geometry) (chunk : Chunk) (sound : IsSound g chunk) (at n pages : ℕ) (what : Use)
    (here : Begins at (Free n) chunk) (fits : pages ≤ n) (some_pages : 0 < pages)
    (good : ElementsFit g (Used pages what)) where
  pub run_taken-total : total_pages (taken_at at pages what chunk) ≡ total_pages chunk
  run_taken-total =
      replaced-total chunk at (front_used pages what) (Free n) sound.none_empty here
      (omega (arith, rest_of-total Use (n - pages), fits))

  pub run_taken-sound : IsSound g (taken_at at pages what chunk)
  run_taken-sound =
      record {
        none_empty =
            NoneEmpty-EachRun (taken_at at pages what chunk)
            (replaced-EachRun (λ r. 0 < pages_in r) chunk at (front_used pages what) (Free n) sound.none_empty here
            (some_pages, EachRun-NoneEmpty (rest_of (n - pages)) (rest_of-NoneEmpty Use (n - pages)))
            (EachRun-NoneEmpty chunk sound.none_empty));
        page = sound.page;
        elements_fit =
            replaced-EachRun (ElementsFit g) chunk at (front_used pages what) (Free n) sound.none_empty here
            (good, rest_of-EachRun (ElementsFit g) (n - pages) (λ k. tt))
            sound.elements_fit;
      }

  pub run_taken-slots : (r : RegionId) → IsSlot g chunk r → IsSlot g (taken_at at pages what chunk) r
  run_taken-slots r (inl s) =
      inl (record {
        page = s.page;
        pages = s.pages;
        starts = s.starts;
        ends = s.ends;
        kind = s.kind;
        begins = taken_at-keeps chunk at n sound.none_empty here pages what s.page s.pages Whole fits s.begins;
      })
  run_taken-slots r (inr s) =
      inr (record {
        page = s.page;
        pages = s.pages;
        elements = s.elements;
        at = s.at;
        starts = s.starts;
        ends = s.ends;
        out = s.out;
        kind = s.kind;
        begins =
            taken_at-keeps chunk at n sound.none_empty here pages what s.page s.pages (Sub r.class s.elements) fits
            s.begins;
      })

  pub run_taken-keeps : Keeps g chunk (taken_at at pages what chunk) Always
  run_taken-keeps = record { sound = run_taken-sound; total = run_taken-total; slots = λ r _ s. run_taken-slots r s }

  -- no slot lay at the first byte of what is taken
  pub run_taken-fresh : (r : RegionId) → IsSlot g chunk r → r.place.offset ≢ page_of g * at
  run_taken-fresh r x e =
      let s : Starts g chunk r = starts g chunk sound r x in
      let free_pages : 0 < n = pages-pos g chunk sound at (Free n) here in
      let same : s.page ≡ at = one-page g chunk s.page s.pages at n s.from 0 (Used s.pages s.what) (Free n) s.begins
      here refl refl (omega (arith, s.starts, e)) s.inside (mul-pos (page-some g sound.page) free_pages) in
      free-unused chunk at n sound.none_empty here s.pages s.what
      (subst (λ p. Begins p (Used s.pages s.what) chunk) same s.begins)

-- a run that is given back: all but its own slots stay
module _ (g : Geometry) (chunk : Chunk) (sound : IsSound g chunk) (page m : ℕ) (what : Use)
    (here : Begins page (Used m what) chunk) where
  pub run_given-total : total_pages (given_at page chunk) ≡ total_pages chunk
  run_given-total =
      merged-total (replaced page freed chunk) ∙ replaced-total chunk page freed (Used m what) sound.none_empty here
      (omega arith)

  pub run_given-sound : IsSound g (given_at page chunk)
  run_given-sound =
      record {
        none_empty =
            merged-NoneEmpty (replaced page freed chunk)
            (NoneEmpty-EachRun (replaced page freed chunk)
            (replaced-EachRun (λ r. 0 < pages_in r) chunk page freed (Used m what) sound.none_empty here
            (pages-pos g chunk sound page (Used m what) here, tt)
            (EachRun-NoneEmpty chunk sound.none_empty)));
        page = sound.page;
        elements_fit =
            merged-EachRun (ElementsFit g) (replaced page freed chunk) (λ n. tt)
            (replaced-EachRun (ElementsFit g) chunk page freed (Used m what) sound.none_empty here (tt, tt)
            sound.elements_fit);
      }

  pub run_given-begins : (p n : ℕ) (w : Use) → p ≢ page → Begins p (Used n w) chunk
      → Begins p (Used n w) (given_at page chunk)
  run_given-begins p n w other b =
      merged-keeps (replaced page freed chunk) p n w
      (replaced-keeps chunk page p freed (Used m what) (Used n w) sound.none_empty here (omega arith) b other)

  -- a slot that is not in this run
  abbrev pub Elsewhere : RegionId → Type 0
  Elsewhere r = (x : IsSlot g chunk r) → (starts g chunk sound r x).page ≢ page

  pub run_given-slots : (r : RegionId) → Elsewhere r → IsSlot g chunk r → IsSlot g (given_at page chunk) r
  run_given-slots r other (inl s) =
      inl (record {
        page = s.page;
        pages = s.pages;
        starts = s.starts;
        ends = s.ends;
        kind = s.kind;
        begins = run_given-begins s.page s.pages Whole (other (inl s)) s.begins;
      })
  run_given-slots r other (inr s) =
      inr (record {
        page = s.page;
        pages = s.pages;
        elements = s.elements;
        at = s.at;
        starts = s.starts;
        ends = s.ends;
        out = s.out;
        kind = s.kind;
        begins = run_given-begins s.page s.pages (Sub r.class s.elements) (other (inr s)) s.begins;
      })

  pub run_given-keeps : Keeps g chunk (given_at page chunk) Elsewhere
  run_given-keeps = record { sound = run_given-sound; total = run_given-total; slots = run_given-slots }

pub same_or-not : (a b : ℕ) → (a ≡ b) ⊎ (a ≢ b)
same_or-not a b =
    ⊎_elim (λ lt. inr (λ e. omega (arith, e))) (λ rest. ⊎_elim (λ e. inl e) (λ gt. inr (λ e. omega (arith, e))) rest)
    (three a b)
