-- The free runs and the entries of a chunk, and what each change of the chunk makes of them.
use Rattle.std.proofs.Common.{◌≡◌, ℕ, zero, suc, ◌+◌, ◌-◌, ◌*◌, ◌<◌, ◌≤◌, List, [], ◌∷◌, Some, None, refl, sym, ap, ◌∙◌, subst, arith, zero-add, eq-eqb, ne_eqb}
use Rattle.std.specs.Prelude.{◌⊎◌, true, false, ◌==◌, All, sum, slice_set, Option}
use Rattle.std.proofs.Math.Nat.{mul_comm}
use Rattle.std.proofs.Math.Nat.{mul-add}
use Rattle.std.proofs.lemmas.Bool.{cases_lt, cases_eq}
use Rattle.std.proofs.lemmas.List.Sums.{sum_by-cons}
use Rattle.size_classes.specs.Sizes.{Geometry, page_of, chunk_pages, chunk_bytes}
use Rattle.size_classes.specs.Pages.{Free, Used, Span, pages_in, free_pages, add_free, free_runs, chosen, taken_at, given_at, NoneEmpty}
use Rattle.size_classes.specs.Spans.{run_lengths, taken_from, given_back, AreApart, IsOut}
use Rattle.size_classes.specs.Runs.{Begins}
use Rattle.size_classes.specs.Elements.{Elements}
use Rattle.size_classes.proofs.Runs.{Begins-apart, Begins-inside, Begins-one, IsFree, EachPair, EachPair-map, free_runs-free, IfThere, chosen-free}
use Rattle.size_classes.proofs.SpanLaws.{free_runs-taken, free_runs-given}
use Rattle.pool_law.specs.Chunks.{Chunk, Use, Sub, IsSubpage, IsChunk, used_pages, used_bytes, free_bytes}
use Rattle.pool_chunk.specs.ChunkStates.{with_elements}
use Rattle.pool_chunk.specs.Slots.{PageEntry, runs_from, AreOf}
use Rattle.pool_chunk.proofs.Entries.{runs_from-entries, entries-taken, entries-given, entries-elements}
use Rattle.pool_chunk.proofs.ChunkLaws.{Fits, run-some, taken-chunk, given-chunk, elements-chunk, used-free}
use mathlib.Core.Logic.{inl, inr}

-- the runs are those that their free runs and entries make
pub the-runs : (g : Geometry) (spans : List Span) (es : List PageEntry) (rs : Chunk) → AreOf g spans es rs
    → runs_from 0 spans es ≡ rs
the-runs g spans es rs of =
    ap (λ (ss : List Span). runs_from 0 ss es) (sym of.free)
    ∙ ap (λ (xs : List PageEntry). runs_from 0 (free_runs 0 rs) xs) (sym of.entries)
    ∙ runs_from-entries 0 rs of.chunk.none_empty

-- so what is of the runs is of those
pub of-runs : (g : Geometry) (spans : List Span) (es : List PageEntry) (rs : Chunk) → AreOf g spans es rs
    → AreOf g spans es (runs_from 0 spans es)
of-runs g spans es rs of = subst (λ (xs : Chunk). AreOf g spans es xs) (sym (the-runs g spans es rs of)) of

-- the free runs don't change with the elements of a subpage
free_runs-elements : (rs : Chunk) (from at n class : ℕ) (e f : Elements) → NoneEmpty rs
    → Begins at (Used n (Sub class e)) rs
    → free_runs from (with_elements at class f rs) ≡ free_runs from rs
free_runs-elements [] from at n class e f ne b = absurd b
free_runs-elements (Free m ∷ rs) from at n class e f ne (inl b) = absurd (cc b.1)
free_runs-elements (Used m w ∷ rs) from at n class e f ne (inl b) =
    let here : (at == 0) ≡ true = eq-eqb at 0 b.0 in rw here refl
free_runs-elements (r ∷ rs) from at n class e f ne (inr b) =
    let not_here : (at == 0) ≡ false = ne_eqb at 0 (λ h. omega (arith, h, ne.0, b.1)) in
    let rest : at - pages_in r ≡ b.0 = omega (arith, b.1) in
    rw (not_here, rest) (ap (λ (ss : List Span). add_free from r ss)
    (free_runs-elements rs (from + pages_in r) b.0 n class e f ne.1 b.2))

module _ (g : Geometry) (spans : List Span) (es : List PageEntry) (rs : Chunk) (at : ℕ) (of : AreOf g spans es rs) where
  -- the front of a free run comes into use
  pub taken-of : (n pages : ℕ) (what : Use) → Begins at (Free n) rs → 0 < pages → pages ≤ n → Fits g (Used pages what)
      → AreOf g (taken_from at pages spans) (slice_set es at (Some (pages, what))) (taken_at at pages what rs)
  taken-of n pages what b some fits good =
      record {
        free =
            free_runs-taken rs 0 at n pages what of.chunk.none_empty b fits
            ∙ ap (λ (k : ℕ). taken_from k pages (free_runs 0 rs)) (zero-add at)
            ∙ ap (λ (ss : List Span). taken_from at pages ss) of.free;
        entries =
            entries-taken rs at n pages what of.chunk.none_empty b some fits
            ∙ ap (λ (xs : List PageEntry). slice_set xs at (Some (pages, what))) of.entries;
        chunk = taken-chunk g rs at of.chunk n pages what b some fits good;
      }

  -- a run in use is given back
  pub given-of : (n : ℕ) (what : Use) → Begins at (Used n what) rs
      → AreOf g (given_back (at, n) spans) (slice_set es at None) (given_at at rs)
  given-of n what b =
      record {
        free =
            free_runs-given rs 0 at n what of.chunk.none_empty b
            ∙ ap (λ (k : ℕ). given_back (k, n) (free_runs 0 rs)) (zero-add at)
            ∙ ap (λ (ss : List Span). given_back (at, n) ss) of.free;
        entries = entries-given rs at n what of.chunk.none_empty b (run-some rs at (Used n what) of.chunk.none_empty b)
            ∙ ap (λ (xs : List PageEntry). slice_set xs at None) of.entries;
        chunk = given-chunk g rs at of.chunk n what b;
      }

  -- the elements of a subpage change
  pub elements-of : (n class : ℕ) (e f : Elements) → Begins at (Used n (Sub class e)) rs → IsSubpage g n class f
      → AreOf g spans (slice_set es at (Some (n, Sub class f))) (with_elements at class f rs)
  elements-of n class e f b good =
      let new : Chunk = with_elements at class f rs in
      record {
        free = free_runs-elements rs 0 at n class e f of.chunk.none_empty b ∙ of.free;
        entries =
            entries-elements rs at n class e f of.chunk.none_empty b
            ∙ ap (λ (xs : List PageEntry). slice_set xs at (Some (n, Sub class f))) of.entries;
        chunk = elements-chunk g rs at of.chunk n class e f b good;
      }

  -- a run in use is apart from all free runs
  pub run-out : (n : ℕ) (what : Use) → Begins at (Used n what) rs → IsOut (chunk_pages g) spans (at, n)
  run-out n what b = (
    run-some rs at (Used n what) of.chunk.none_empty b,
    omega (arith, Begins-inside rs at (Used n what) b, of.chunk.covers),
    subst (λ (ss : List Span). All (AreApart (at, n)) ss) of.free
        (all (free_runs 0 rs) (EachPair-map (IsFree 0 rs) (AreApart (at, n)) apart (free_runs 0 rs)
        (free_runs-free rs 0))),
  )
    where
      all : (ss : List Span) → EachPair (AreApart (at, n)) ss → All (AreApart (at, n)) ss
      all [] h k d less = absurd (omega arith)
      all (s ∷ ss) h zero d less = h.0
      all (s ∷ ss) h (suc k) d less = all ss h.1 k d (omega (arith, less))

      apart : (x : Span) → IsFree 0 rs x → AreApart (at, n) x
      apart x free = by (cases_lt at free.0) (cases_eq at free.0)
        where
          by : (at < free.0) ⊎ (free.0 ≤ at) → (at ≡ free.0) ⊎ (at ≡ free.0 → ⊥) → AreApart (at, n) x
          by (inl before) e =
              inl (omega (arith, Begins-apart rs at free.0 (Used n what) (Free x.1) b free.2 before, free.1))
          by (inr past) (inl e) =
              absurd (cc (Begins-one rs free.0 (Used n what) (Free x.1) of.chunk.none_empty
              (subst (λ k. Begins k (Used n what) rs) e b) free.2))
          by (inr past) (inr ne) =
              let behind : free.0 < at = omega (arith, past, ne) in
              inr (omega (arith, Begins-apart rs free.0 at (Free x.1) (Used n what) free.2 b behind, free.1))

-- the run that is chosen is free, and holds the pages
pub chosen-begins : (g : Geometry) (pages at long : ℕ) (rs : Chunk) → chosen g pages (free_runs 0 rs) ≡ Some (at, long)
    → Begins at (Free long) rs × (pages ≤ long)
chosen-begins g pages at long rs e =
    subst (λ (o : Option Span). IfThere (λ x. Begins x.0 (Free x.1) rs × (pages ≤ x.1)) o) e (chosen-free g pages rs)

-- the pages of the free runs
pub sum-free : (rs : Chunk) (from : ℕ) → sum (run_lengths (free_runs from rs)) ≡ free_pages rs
sum-free [] from = refl
sum-free (Free n ∷ rs) from =
    omega (arith, sum_by-cons (λ x. x) n (run_lengths (free_runs (from + n) rs)), sum-free rs (from + n))
sum-free (Used n what ∷ rs) from = omega (arith, sum-free rs (from + n))

-- the bytes of the free runs
pub free-bytes : (g : Geometry) (spans : List Span) (es : List PageEntry) (rs : Chunk) (page : ℕ) → AreOf g spans es rs
    → page ≡ page_of g
    → sum (run_lengths spans) * page ≡ free_bytes g rs
free-bytes g spans es rs page of is =
    let pages : sum (run_lengths spans) ≡ free_pages rs = ap (λ (ss : List Span). sum (run_lengths ss)) (sym of.free)
    ∙ sum-free rs 0 in
    ap (λ (k : ℕ). sum (run_lengths spans) * k) is ∙ ap (λ (n : ℕ). n * page_of g) pages
    ∙ mul_comm (free_pages rs) (page_of g)

-- what is used and what is free are all bytes
pub all-bytes : (g : Geometry) (rs : Chunk) → IsChunk g rs → used_bytes g rs + free_bytes g rs ≡ chunk_bytes g
all-bytes g rs is =
    sym (mul-add (page_of g) (used_pages rs) (free_pages rs))
    ∙ ap (λ (n : ℕ). page_of g * n) (used-free rs ∙ is.covers)
