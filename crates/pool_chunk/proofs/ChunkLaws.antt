-- What a chunk keeps when a run is taken or given back, and when the elements of a subpage change.
use Rattle.std.proofs.Common.{◌≡◌, ℕ, zero, suc, ◌+◌, ◌-◌, ◌<◌, ◌≤◌, List, [], ◌∷◌, ◌++◌, length, refl, ◌∙◌, subst, arith, eq-eqb, ne_eqb}
use Rattle.std.specs.Prelude.{Bool, true, false, ◌==◌, slice_get, slice_set, unwrap_or}
use Rattle.std.proofs.lemmas.List.{length-set, length-replicate}
use Rattle.size_classes.specs.Sizes.{Geometry, is_small, subpage_pages, element_count}
use Rattle.size_classes.specs.Pages.{Run, Free, Used, pages_in, total_pages, free_pages, rest_of, front_used, freed, replaced, taken_at, given_at, begins_free, NoneEmpty, NoneSideBySide}
use Rattle.size_classes.specs.Runs.{Begins, EachRun}
use Rattle.size_classes.specs.Elements.{Elements, new_elements, with_out, with_back, is_out}
use Rattle.size_classes.proofs.ElementLaws.{out_within}
use Rattle.size_classes.proofs.Runs.{EachRun-Begins, replaced-EachRun, replaced-total, merged-total, merged-NoneEmpty, merged-EachRun, merged-apart, rest_of-total, rest_of-NoneEmpty, rest_of-EachRun}
use Rattle.pool_law.specs.Chunks.{Chunk, Use, Whole, Sub, IsSubpage, SubpagesFit, IsChunk, used_pages}
use Rattle.pool_chunk.specs.ChunkStates.{with_elements}
use mathlib.Core.Logic.{inl, inr}

-- ---- facts of each run

abbrev pub IsSome : Run Use → Type 0
IsSome r = 0 < pages_in r

-- a subpage has the pages and the elements of its class
abbrev pub Fits : Geometry → Run Use → Type 0
Fits g (Free n) = Unit {0}
Fits g (Used n Whole) = Unit {0}
Fits g (Used n (Sub class e)) = IsSubpage g n class e

each-some : (rs : Chunk) → NoneEmpty rs → EachRun IsSome rs
each-some [] h = tt
each-some (r ∷ rs) h = (h.0, each-some rs h.1)

some-each : (rs : Chunk) → EachRun IsSome rs → NoneEmpty rs
some-each [] h = tt
some-each (r ∷ rs) h = (h.0, some-each rs h.1)

each-fits : (g : Geometry) (rs : Chunk) → SubpagesFit g rs → EachRun (Fits g) rs
each-fits g [] h = tt
each-fits g (Free n ∷ rs) h = (tt, each-fits g rs h)
each-fits g (Used n Whole ∷ rs) h = (tt, each-fits g rs h)
each-fits g (Used n (Sub class e) ∷ rs) h = (h.0, each-fits g rs h.1)

fits-each : (g : Geometry) (rs : Chunk) → EachRun (Fits g) rs → SubpagesFit g rs
fits-each g [] h = tt
fits-each g (Free n ∷ rs) h = fits-each g rs h.1
fits-each g (Used n Whole ∷ rs) h = fits-each g rs h.1
fits-each g (Used n (Sub class e) ∷ rs) h = (h.0, fits-each g rs h.1)

-- a run has pages, and a subpage fits
pub run-some : (rs : Chunk) (at : ℕ) (r : Run Use) → NoneEmpty rs → Begins at r rs → 0 < pages_in r
run-some rs at r ne b = EachRun-Begins IsSome rs at r (each-some rs ne) b

pub subpage-fits : (g : Geometry) (rs : Chunk) (at n class : ℕ) (e : Elements) → IsChunk g rs
    → Begins at (Used n (Sub class e)) rs → IsSubpage g n class e
subpage-fits g rs at n class e is b =
    EachRun-Begins (Fits g) rs at (Used n (Sub class e)) (each-fits g rs is.subpages) b

-- ---- the elements of a subpage

-- a subpage fits with an element out
pub out-fits : (g : Geometry) (n class k : ℕ) (e : Elements) → IsSubpage g n class e
    → IsSubpage g n class (with_out e k)
out-fits g n class k e fits =
    record {
      small = fits.small;
      whole = fits.whole;
      elements = length-set e.out k true
          ∙ fits.elements;
      remembers = tt;
    }

is-back : (out : List Bool) (k : ℕ) → k < length out → unwrap_or (slice_get (slice_set out k false) k) false ≡ false
is-back [] k h = absurd (omega arith)
is-back (b ∷ out) zero h = refl
is-back (b ∷ out) (suc k) h = is-back out k (omega (arith, h))

-- and with one back that was out
pub back-fits : (g : Geometry) (n class k : ℕ) (e : Elements) → IsSubpage g n class e → is_out e k ≡ true
    → IsSubpage g n class (with_back e k)
back-fits g n class k e fits out =
    let below : k < length e.out = out_within k e.out out in
    record {
      small = fits.small;
      whole = fits.whole;
      elements = length-set e.out k false ∙ fits.elements;
      remembers = (omega (arith, below, length-set e.out k false), is-back e.out k below);
    }

-- a new subpage of a small class fits
pub new-fits : (g : Geometry) (class : ℕ) → is_small g class ≡ true
    → IsSubpage g (subpage_pages g class) class (new_elements (element_count g class))
new-fits g class small =
    record { small = small; whole = refl; elements = length-replicate (element_count g class) false; remembers = tt }

-- ---- free runs side by side

-- a run that comes into use puts no two free runs side by side
side-replaced : (rs : Chunk) (at : ℕ) (r : Run Use) (pages : Run Use → ℕ) (what : Use) (tail : Run Use → Chunk)
    → NoneEmpty rs → Begins at r rs
    → ((us : Chunk) → NoneSideBySide (r ∷ us) → NoneSideBySide (tail r ++ us)) → NoneSideBySide rs
    → NoneSideBySide (replaced at (λ q. Used (pages q) what ∷ tail q) rs)
side-replaced [] at r pages what tail ne b keeps apart = absurd b
side-replaced (s ∷ rs) at r pages what tail ne (inl b) keeps apart =
    let here : (at == 0) ≡ true = eq-eqb at 0 b.0 in
    let P : Run Use → Type 0 = λ q. (us : Chunk) → NoneSideBySide (q ∷ us) → NoneSideBySide (tail q ++ us) in
    rw here (subst P b.1 keeps rs apart)
side-replaced (Free m ∷ rs) at r pages what tail ne (inr b) keeps apart =
    let not_here : (at == 0) ≡ false = ne_eqb at 0 (λ e. omega (arith, e, ne.0, b.1)) in
    let rest : at - m ≡ b.0 = omega (arith, b.1) in
    rw (not_here, rest) (first rs b.0 apart.0, side-replaced rs b.0 r pages what tail ne.1 b.2 keeps apart.1)
  where
    first : (us : Chunk) (k : ℕ) → begins_free us ≡ false
        → begins_free (replaced k (λ q. Used (pages q) what ∷ tail q) us) ≡ false
    first [] k e = refl
    first (Free n ∷ us) k e = absurd (cc e)
    first (Used n w ∷ us) zero e = refl
    first (Used n w ∷ us) (suc k) e = rw (ne_eqb (suc k) 0 (λ h. omega (arith, h))) refl
side-replaced (Used m w ∷ rs) at r pages what tail ne (inr b) keeps apart =
    let not_here : (at == 0) ≡ false = ne_eqb at 0 (λ e. omega (arith, e, ne.0, b.1)) in
    let rest : at - m ≡ b.0 = omega (arith, b.1) in
    rw (not_here, rest) (side-replaced rs b.0 r pages what tail ne.1 b.2 keeps apart)

-- ---- the three changes

module _ (g : Geometry) (rs : Chunk) (at : ℕ) (is : IsChunk g rs) where
  -- the front of a free run comes into use
  pub taken-chunk : (n pages : ℕ) (what : Use) → Begins at (Free n) rs → 0 < pages → pages ≤ n
      → Fits g (Used pages what) → IsChunk g (taken_at at pages what rs)
  taken-chunk n pages what b some fits good =
      record {
        covers =
            replaced-total rs at (front_used pages what) (Free n) is.none_empty b
            (omega (arith, rest_of-total Use (n - pages), fits)) ∙ is.covers;
        none_empty =
            some-each (taken_at at pages what rs)
            (replaced-EachRun IsSome rs at (front_used pages what) (Free n) is.none_empty b
            (some, each-some (rest_of (n - pages)) (rest_of-NoneEmpty Use (n - pages))) (each-some rs is.none_empty));
        none_side_by_side =
            side-replaced rs at (Free n) (λ _. pages) what (λ q. rest_of (pages_in q - pages)) is.none_empty b
            (λ us h. rest-side (n - pages) us h) is.none_side_by_side;
        subpages =
            fits-each g (taken_at at pages what rs)
            (replaced-EachRun (Fits g) rs at (front_used pages what) (Free n) is.none_empty b
            (good, rest_of-EachRun (Fits g) (n - pages) (λ _. tt)) (each-fits g rs is.subpages));
      }
    where
      rest-side : (k : ℕ) (us : Chunk) → NoneSideBySide (Free n ∷ us) → NoneSideBySide (rest_of k ++ us)
      rest-side zero us h = h.1
      rest-side (suc k) us h = h

  -- a run in use is given back
  pub given-chunk : (n : ℕ) (what : Use) → Begins at (Used n what) rs → IsChunk g (given_at at rs)
  given-chunk n what b =
      let some = run-some rs at (Used n what) is.none_empty b in
      let each : EachRun IsSome (replaced at freed rs) =
      replaced-EachRun IsSome rs at freed (Used n what) is.none_empty b (some, tt) (each-some rs is.none_empty) in
      record {
        covers =
            merged-total (replaced at freed rs) ∙ replaced-total rs at freed (Used n what) is.none_empty b (omega arith)
            ∙ is.covers;
        none_empty = merged-NoneEmpty (replaced at freed rs) (some-each (replaced at freed rs) each);
        none_side_by_side = merged-apart (replaced at freed rs);
        subpages =
            fits-each g (given_at at rs)
            (merged-EachRun (Fits g) (replaced at freed rs) (λ _. tt)
            (replaced-EachRun (Fits g) rs at freed (Used n what) is.none_empty b (tt, tt)
            (each-fits g rs is.subpages)));
      }

  -- the elements of a subpage change
  pub elements-chunk : (n class : ℕ) (e f : Elements) → Begins at (Used n (Sub class e)) rs → IsSubpage g n class f
      → IsChunk g (with_elements at class f rs)
  elements-chunk n class e f b good =
      let by : Run Use → Chunk = λ r. Used (pages_in r) (Sub class f) ∷ [] in
      let old : Run Use = Used n (Sub class e) in
      let some = run-some rs at old is.none_empty b in
      record {
        covers = replaced-total rs at by old is.none_empty b (omega arith) ∙ is.covers;
        none_empty =
            some-each (with_elements at class f rs)
            (replaced-EachRun IsSome rs at by old is.none_empty b (some, tt) (each-some rs is.none_empty));
        none_side_by_side =
            side-replaced rs at old pages_in (Sub class f) (λ _. []) is.none_empty b (λ us h. h) is.none_side_by_side;
        subpages =
            fits-each g (with_elements at class f rs)
            (replaced-EachRun (Fits g) rs at by old is.none_empty b (good, tt) (each-fits g rs is.subpages));
      }

-- ---- sums

-- what is used and what is free are all pages
pub used-free : (rs : Chunk) → used_pages rs + free_pages rs ≡ total_pages rs
used-free [] = refl
used-free (Free n ∷ rs) = omega (arith, used-free rs)
used-free (Used n what ∷ rs) = omega (arith, used-free rs)
