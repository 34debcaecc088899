-- Chunks that are changed stay lists of runs that can be counted.
use Rattle.std.proofs.Common.{◌≡◌, ℕ, ◌+◌, ◌-◌, ◌^◌, ◌≤◌, ◌<◌, [], ◌∷◌, ◌++◌, refl, sym, ap, subst, arith, ◌∙◌, inl, inr}
use Rattle.std.proofs.lemmas.Bool.{cond_both}
use Rattle.std.specs.Prelude.{◌==◌, Option, Some, None, option_map, IfSome}
use Rattle.size_classes.specs.Sizes.{Geometry}
use Rattle.size_classes.specs.Pages.{Run, Free, Used, Span, free_runs, chosen, pages_in, total_pages, joined, merged, taken_at, given_at, replaced, freed, front_used, NoneEmpty}
use Rattle.size_classes.specs.Runs.{Begins}
use Rattle.size_classes.proofs.Runs.{total-append, NoneEmpty-append, joined-total, merged-total, merged-NoneEmpty, rest_of-total, rest_of-NoneEmpty, replaced-total, Begins-inside, run_at-Begins, IfThere, chosen-free}
use Rattle.pool_law.specs.Chunks.{Use, Whole, Sub, Chunk}
use Rattle.object_steps.specs.Elementwise.{with_element_out, with_element_back}
use Rattle.object_steps.specs.Runs.{AreRuns, HasRoom, IsCapped}

-- runs are joined onto others, the last of them first
abbrev pub joined_onto : Chunk → Chunk → Chunk
joined_onto [] new = new
joined_onto (r ∷ rs) new = joined r (joined_onto rs new)

pub merged-onto : (rs : Chunk) → merged rs ≡ joined_onto rs []
merged-onto [] = refl
merged-onto (r ∷ rs) = ap (joined r) (merged-onto rs)

pub onto-last : (rs : Chunk) (r : Run Use) (new : Chunk)
    → joined_onto (rs ++ r ∷ []) new ≡ joined_onto rs (joined r new)
onto-last [] r new = refl
onto-last (x ∷ rs) r new = ap (joined x) (onto-last rs r new)

-- of runs to be merged these are left, and the others are merged
pub record Merges (runs left new : Chunk) : Type 0 where
  pub same : joined_onto left new ≡ merged runs
  pub few : total_pages left + total_pages new ≤ 2 ^ 16

pub merges-none : (runs : Chunk) → total_pages runs ≤ 2 ^ 16 → Merges runs runs []
merges-none runs few = record { same = sym (merged-onto runs); few = omega (arith, few) }

pub merges-more : (runs left new : Chunk) (r : Run Use) → Merges runs (left ++ r ∷ []) new →
    (pages_in r + total_pages new ≤ 2 ^ 16) × Merges runs left (joined r new)
merges-more runs left new r m =
    let total : total_pages (left ++ r ∷ []) ≡ total_pages left + (pages_in r + 0) = total-append left (r ∷ []) in
    let more : total_pages (joined r new) ≡ pages_in r + total_pages new = joined-total r new in (
      omega (arith, m.few, total),
      record { same = sym (onto-last left r new) ∙ m.same; few = omega (arith, m.few, total, more) },
    )

-- ---- Where each run is replaced by as many pages.

replaced-pages : (by : Run Use → Chunk) → ((r : Run Use) → total_pages (by r) ≡ pages_in r) → (at : ℕ) (rs : Chunk) →
    total_pages (replaced at by rs) ≡ total_pages rs
replaced-pages by same at [] = refl
replaced-pages by same at (r ∷ rs) =
    cond_both (at == 0) (by r ++ rs) (r ∷ replaced (at - pages_in r) by rs) (λ x. total_pages x ≡ total_pages (r ∷ rs))
    (λ _. omega (arith, total-append (by r) rs, same r))
    (λ _. omega (arith, replaced-pages by same (at - pages_in r) rs))

replaced-some : (by : Run Use → Chunk) → ((r : Run Use) → 0 < pages_in r → NoneEmpty (by r)) → (at : ℕ) (rs : Chunk) →
    NoneEmpty rs → NoneEmpty (replaced at by rs)
replaced-some by some at [] ne = tt
replaced-some by some at (r ∷ rs) ne =
    cond_both (at == 0) (by r ++ rs) (r ∷ replaced (at - pages_in r) by rs) NoneEmpty
    (λ _. NoneEmpty-append (by r) rs (some r ne.0) ne.1)
    (λ _. (ne.0, replaced-some by some (at - pages_in r) rs ne.1))

pub replaced_are_runs : (by : Run Use → Chunk) → ((r : Run Use) → total_pages (by r) ≡ pages_in r) →
    ((r : Run Use) → 0 < pages_in r → NoneEmpty (by r)) → (at : ℕ) (rs : Chunk) → AreRuns rs →
    AreRuns (replaced at by rs)
replaced_are_runs by same some at rs a = record {
  few = omega (arith, a.few, replaced-pages by same at rs);
  none_empty = replaced-some by some at rs a.none_empty;
}

freed-same : (r : Run Use) → total_pages (freed r) ≡ pages_in r
freed-same r = omega arith

pub freed_are_runs : (at : ℕ) (rs : Chunk) → AreRuns rs → AreRuns (replaced at freed rs)
freed_are_runs = replaced_are_runs freed freed-same (λ r some. (some, tt))

pub given_are_runs : (at : ℕ) (rs : Chunk) → AreRuns rs → AreRuns (given_at at rs)
given_are_runs at rs a =
    let free : AreRuns (replaced at freed rs) = freed_are_runs at rs a in
    record {
      few = omega (arith, free.few, merged-total (replaced at freed rs));
      none_empty = merged-NoneEmpty (replaced at freed rs) free.none_empty;
    }

-- ---- Where the front of a free run is taken.

front-pages : (pages n : ℕ) (what : Use) → pages ≤ n → total_pages (front_used pages what (Free n)) ≡ n
front-pages pages n what enough = omega (arith, rest_of-total Use (n - pages), enough)

front-some : (pages : ℕ) (what : Use) (r : Run Use) → 0 < pages → NoneEmpty (front_used pages what r)
front-some pages what r some = (some, rest_of-NoneEmpty Use (pages_in r - pages))

pub taken_are_runs : (at pages : ℕ) (what : Use) (rs : Chunk) → HasRoom at pages rs → AreRuns rs →
    AreRuns (taken_at at pages what rs)
taken_are_runs at pages what rs h a = record {
  few =
      omega (
        arith,
        a.few,
        replaced-total rs at (front_used pages what) (Free h.free) a.none_empty h.begins
            (front-pages pages h.free what h.enough),
      );
  none_empty = replaced-some (front_used pages what) (λ r _. front-some pages what r h.some) at rs a.none_empty;
}

-- ---- Where runs that were split are put together again.

-- ---- Where one run is replaced by one.

one-same : (f : Run Use → Run Use) → ((r : Run Use) → pages_in (f r) ≡ pages_in r) → (r : Run Use) →
    total_pages (f r ∷ []) ≡ pages_in r
one-same f same r = omega (arith, same r)

pub one_are_runs : (f : Run Use → Run Use) → ((r : Run Use) → pages_in (f r) ≡ pages_in r) → (at : ℕ) (rs : Chunk) →
    AreRuns rs → AreRuns (replaced at (λ r. f r ∷ []) rs)
one_are_runs f same =
    replaced_are_runs (λ r. f r ∷ []) (one-same f same) (λ r some. (omega (arith, some, same r), tt))

pub out-pages : (k : ℕ) (r : Run Use) → pages_in (with_element_out k r) ≡ pages_in r
out-pages k (Free n) = refl
out-pages k (Used n Whole) = refl
out-pages k (Used n (Sub class e)) = refl

pub back-pages : (k : ℕ) (r : Run Use) → pages_in (with_element_back k r) ≡ pages_in r
back-pages k (Free n) = refl
back-pages k (Used n Whole) = refl
back-pages k (Used n (Sub class e)) = refl

-- ---- Which run is chosen.

chosen-none : (g : Geometry) (pages : ℕ) (rs : Chunk) → AreRuns rs → 2 ^ 16 < pages →
    chosen g pages (free_runs 0 rs) ≡ None
chosen-none g pages rs a many = go (chosen g pages (free_runs 0 rs)) (chosen-free g pages rs)
  where
    go : (o : Option Span) → IfThere (λ x. Begins x.0 (Free x.1) rs × (pages ≤ x.1)) o → o ≡ None
    go None h = refl
    go (Some x) h = absurd (omega (arith, Begins-inside rs x.0 (Free x.1) h.0, h.1, many, a.few))

pub chosen-capped : (g : Geometry) (wanted pages : ℕ) (rs : Chunk) → AreRuns rs → IsCapped wanted pages →
    chosen g pages (free_runs 0 rs) ≡ chosen g wanted (free_runs 0 rs)
chosen-capped g wanted pages rs a (inl same) = ap (λ n. chosen g n (free_runs 0 rs)) (sym same)
chosen-capped g wanted pages rs a (inr many) = chosen-none g pages rs a many.1 ∙ sym (chosen-none g wanted rs a many.0)

pub room-chosen : (g : Geometry) (pages at : ℕ) (rs : Chunk) → AreRuns rs → 0 < pages →
    Some at ≡ option_map (λ run. run.0) (chosen g pages (free_runs 0 rs)) → HasRoom at pages rs
room-chosen g pages at rs a some = go (chosen g pages (free_runs 0 rs)) (chosen-free g pages rs)
  where
    go : (o : Option Span) → IfThere (λ x. Begins x.0 (Free x.1) rs × (pages ≤ x.1)) o →
        Some at ≡ option_map (λ run. run.0) o → HasRoom at pages rs
    go None h e = absurd (cc e)
    go (Some x) h e =
        let same : x.0 ≡ at = cc e in
        let there : Begins at (Free x.1) rs = subst (λ n. Begins n (Free x.1) rs) same h.0 in
        record {
          free = x.1;
          few = omega (arith, Begins-inside rs at (Free x.1) there, a.few);
          begins = there;
          found = run_at-Begins rs at (Free x.1) a.none_empty there;
          enough = h.1;
          some = some;
        }

pub if_room : (g : Geometry) (pages : ℕ) (rs : Chunk) → AreRuns rs → 0 < pages → (page : Option ℕ) →
    page ≡ option_map (λ run. run.0) (chosen g pages (free_runs 0 rs)) → IfSome page (λ at. HasRoom at pages rs)
if_room g pages rs a some None e = tt
if_room g pages rs a some (Some at) e = room-chosen g pages at rs a some e
