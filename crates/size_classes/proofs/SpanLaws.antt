-- The two laws that tie a chunk and its free runs: what taking and giving back make of the runs of the chunk (Pages)
-- is, of the free ones, what they make of the spans (Spans).
use Rattle.std.proofs.Common.{◌≡◌, ℕ, suc, ◌+◌, ◌-◌, ◌<◌, ◌≤◌, List, [], ◌∷◌, ◌++◌, refl, sym, ap, ◌∙◌, arith, eq-eqb, ne_eqb, lt-ltb, le-ltb}
use Rattle.std.specs.Prelude.{true, false, ◌==◌, nat_lt}
use native.Mathlib.Decide.{ℕ_discrete}
use Rattle.std.proofs.lemmas.Bool.{cond_both}
use Rattle.size_classes.specs.Pages.{Run, Free, Used, pages_in, free_runs, replaced, front_used, freed, joined, merged, taken_at, given_at, NoneEmpty}
use Rattle.size_classes.specs.Spans.{Span, rest_of, taken_from, merged_before, placed_in, given_back}
use Rattle.size_classes.specs.Spans.{merged as spans_merged}
use Rattle.size_classes.specs.Runs.{Begins}
use Rattle.size_classes.proofs.Runs.{merged-NoneEmpty}
use mathlib.Core.Logic.{inl, inr}

-- ---- taking

-- what is free of a free run once pages are taken from its front
front-free : {U : Type 0} (rs : List (Run U)) (from n pages : ℕ) (what : U) → pages ≤ n →
    free_runs from (front_used pages what (Free n) ++ rs) ≡ rest_of pages (from, n) ++ free_runs (from + n) rs
front-free rs from n pages what fits = go (ℕ_discrete n pages)
  where
    go : Dec (n ≡ pages) →
        free_runs from (front_used pages what (Free n) ++ rs) ≡ rest_of pages (from, n) ++ free_runs (from + n) rs
    go (yes e) =
        let nothing : n - pages ≡ 0 = omega (arith, e) in
        rw (nothing, eq-eqb n pages e) (ap (λ (k : ℕ). free_runs (from + k) rs) (sym e))
    go (no ne) =
        let k : ℕ = n - pages - 1 in
        let some : n - pages ≡ suc k = omega (arith, ne, fits) in
        let same : from + pages + suc k ≡ from + n = omega (arith, some, fits) in
        rw (ne_eqb n pages ne, some) (ap (λ (m : ℕ). (from + pages, suc k) ∷ free_runs m rs) same)

-- pages taken from the front of a free run of a chunk are taken from its free runs
pub free_runs-taken : {U : Type 0} (rs : List (Run U)) (from at n pages : ℕ) (what : U) → NoneEmpty rs →
    Begins at (Free n) rs → pages ≤ n →
    free_runs from (taken_at at pages what rs) ≡ taken_from (from + at) pages (free_runs from rs)
free_runs-taken [] from at n pages what ne b fits = absurd b
free_runs-taken (Free m ∷ rs) from at n pages what ne (inl b) fits =
    let same : n ≡ m = cc b.1 in
    let here : (at == 0) ≡ true = eq-eqb at 0 b.0 in
    let first : (from == from + at) ≡ true = eq-eqb from (from + at) (omega (arith, b.0)) in
    rw (here, first) (front-free rs from m pages what (omega (arith, same, fits)))
free_runs-taken (Used m w ∷ rs) from at n pages what ne (inl b) fits = absurd (cc b.1)
free_runs-taken (Free m ∷ rs) from at n pages what ne (inr b) fits =
    let not_here : (at == 0) ≡ false = ne_eqb at 0 (λ e. omega (arith, e, ne.0, b.1)) in
    let rest : at - m ≡ b.0 = omega (arith, b.1) in
    let later : (from == from + at) ≡ false = ne_eqb from (from + at) (λ e. omega (arith, e, ne.0, b.1)) in
    let ih = free_runs-taken rs (from + m) b.0 n pages what ne.1 b.2 fits in
    let same : from + m + b.0 ≡ from + at = omega (arith, b.1) in
    rw (not_here, later, rest)
    (ap (λ (xs : List Span). (from, m) ∷ xs) (ih ∙ ap (λ (k : ℕ). taken_from k pages (free_runs (from + m) rs)) same))
free_runs-taken (Used m w ∷ rs) from at n pages what ne (inr b) fits =
    let not_here : (at == 0) ≡ false = ne_eqb at 0 (λ e. omega (arith, e, ne.0, b.1)) in
    let rest : at - m ≡ b.0 = omega (arith, b.1) in
    let ih = free_runs-taken rs (from + m) b.0 n pages what ne.1 b.2 fits in
    let same : from + m + b.0 ≡ from + at = omega (arith, b.1) in
    rw (not_here, rest) (ih ∙ ap (λ (k : ℕ). taken_from k pages (free_runs (from + m) rs)) same)

-- ---- giving back

-- a span that ends before others begin is not merged with them, and goes before them
merged_before-far : {U : Type 0} (rs : List (Run U)) (at from n : ℕ) → from + n < at →
    merged_before (from, n) (free_runs at rs) ≡ (from, n) ∷ free_runs at rs
merged_before-far [] at from n far = refl
merged_before-far (Free m ∷ rs) at from n far = rw (ne_eqb (from + n) at (λ e. omega (arith, e, far))) refl
merged_before-far (Used m w ∷ rs) at from n far = merged_before-far rs (at + m) from n (omega (arith, far))

-- and one that begins before others is placed before them
placed_in-first : {U : Type 0} (rs : List (Run U)) (at from n : ℕ) → from < at →
    placed_in (from, n) (free_runs at rs) ≡ (from, n) ∷ free_runs at rs
placed_in-first [] at from n far = refl
placed_in-first (Free m ∷ rs) at from n far = rw (lt-ltb from at far) refl
placed_in-first (Used m w ∷ rs) at from n far = placed_in-first rs (at + m) from n (omega (arith, far))

-- a free run that takes in the next one, of the free runs
joined-free : {U : Type 0} (rs : List (Run U)) (from n : ℕ) → NoneEmpty rs →
    free_runs from (joined (Free n) rs) ≡ merged_before (from, n) (free_runs (from + n) rs)
joined-free [] from n ne = refl
joined-free (Free m ∷ rs) from n ne =
    let same : from + (n + m) ≡ from + n + m = omega arith in
    rw (eq-eqb (from + n) (from + n) refl) (ap (λ (k : ℕ). (from, n + m) ∷ free_runs k rs) same)
joined-free (Used m w ∷ rs) from n ne = sym (merged_before-far rs (from + n + m) from n (omega (arith, ne.0)))

-- runs that are merged have the free runs that are merged
pub free_runs-merged : {U : Type 0} (rs : List (Run U)) (from : ℕ) → NoneEmpty rs →
    free_runs from (merged rs) ≡ spans_merged (free_runs from rs)
free_runs-merged [] from ne = refl
free_runs-merged (Free n ∷ rs) from ne =
    joined-free (merged rs) from n (merged-NoneEmpty rs ne.1)
    ∙ ap (λ (xs : List Span). merged_before (from, n) xs) (free_runs-merged rs (from + n) ne.1)
free_runs-merged (Used n w ∷ rs) from ne = free_runs-merged rs (from + n) ne.1

-- a run that becomes free takes its place among the free runs
pub free_runs-freed : {U : Type 0} (rs : List (Run U)) (from at n : ℕ) (w : U) → NoneEmpty rs →
    Begins at (Used n w) rs → free_runs from (replaced at freed rs) ≡ placed_in (from + at, n) (free_runs from rs)
free_runs-freed [] from at n w ne b = absurd b
free_runs-freed (Free m ∷ rs) from at n w ne (inl b) = absurd (cc b.1)
free_runs-freed (Used m v ∷ rs) from at n w ne (inl b) =
    let same : n ≡ m = cc b.1 in
    let here : (at == 0) ≡ true = eq-eqb at 0 b.0 in
    let start : from + at ≡ from = omega (arith, b.0) in
    rw (here, start, same) (sym (placed_in-first rs (from + m) from m (omega (arith, ne.0))))
free_runs-freed (Free m ∷ rs) from at n w ne (inr b) =
    let not_here : (at == 0) ≡ false = ne_eqb at 0 (λ e. omega (arith, e, ne.0, b.1)) in
    let rest : at - m ≡ b.0 = omega (arith, b.1) in
    let behind : nat_lt (from + at) from ≡ false = le-ltb (from + at) from (omega arith) in
    let ih : free_runs (from + m) (replaced b.0 freed rs) ≡ placed_in (from + m + b.0, n) (free_runs (from + m) rs) =
    free_runs-freed rs (from + m) b.0 n w ne.1 b.2 in
    let same : from + m + b.0 ≡ from + at = omega (arith, b.1) in
    rw (not_here, rest, behind)
    (ap (λ (xs : List Span). (from, m) ∷ xs) (ih ∙ ap (λ (k : ℕ). placed_in (k, n) (free_runs (from + m) rs)) same))
free_runs-freed (Used m v ∷ rs) from at n w ne (inr b) =
    let not_here : (at == 0) ≡ false = ne_eqb at 0 (λ e. omega (arith, e, ne.0, b.1)) in
    let rest : at - m ≡ b.0 = omega (arith, b.1) in
    let ih : free_runs (from + m) (replaced b.0 freed rs) ≡ placed_in (from + m + b.0, n) (free_runs (from + m) rs) =
    free_runs-freed rs (from + m) b.0 n w ne.1 b.2 in
    let same : from + m + b.0 ≡ from + at = omega (arith, b.1) in
    rw (not_here, rest) (ih ∙ ap (λ (k : ℕ). placed_in (k, n) (free_runs (from + m) rs)) same)

-- no run becomes empty by being freed
freed-NoneEmpty : {U : Type 0} (rs : List (Run U)) (at : ℕ) → NoneEmpty rs → NoneEmpty (replaced at freed rs)
freed-NoneEmpty [] at ne = ne
freed-NoneEmpty (r ∷ rs) at ne =
    cond_both (at == 0) (freed r ++ rs) (r ∷ replaced (at - pages_in r) freed rs) NoneEmpty (λ _. (ne.0, ne.1))
    (λ _. (ne.0, freed-NoneEmpty rs (at - pages_in r) ne.1))

-- a run that is given back to a chunk is given back to its free runs
pub free_runs-given : {U : Type 0} (rs : List (Run U)) (from at n : ℕ) (w : U) → NoneEmpty rs →
    Begins at (Used n w) rs → free_runs from (given_at at rs) ≡ given_back (from + at, n) (free_runs from rs)
free_runs-given rs from at n w ne b =
    free_runs-merged (replaced at freed rs) from (freed-NoneEmpty rs at ne)
    ∙ ap (λ (xs : List Span). spans_merged xs) (free_runs-freed rs from at n w ne b)
