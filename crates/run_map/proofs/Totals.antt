-- The pages of all free runs, counted: what a take and a give make of their number.
use Rattle.std.proofs.Common.{◌≡◌, ℕ, ◌+◌, ◌-◌, ◌≤◌, List, [], ◌∷◌, ◌++◌, refl, ap, ◌∙◌, arith, eqb-true}
use Rattle.std.specs.Prelude.{sum, nat_lt, ◌==◌}
use Rattle.std.proofs.lemmas.Bool.{cond_both, eq-eqb, ne_eqb}
use Rattle.std.proofs.lemmas.List.Sums.{sum_by-cons}
use Rattle.size_classes.specs.Spans.{Span, run_lengths, taken_from, merged_before, merged, placed_in, given_back, AreSpacedFrom}
use Rattle.size_classes.proofs.Runs.{EachPair}
use Rattle.size_classes.proofs.OutLaws.{IsAmong, among-later}
use mathlib.Core.Logic.{inl, inr}

-- the pages of all the runs
abbrev pub pages_in : List Span → ℕ
pages_in runs = sum (run_lengths runs)

total-cons : (r : Span) (runs : List Span) → pages_in (r ∷ runs) ≡ r.1 + pages_in runs
total-cons r runs = sum_by-cons (λ n. n) r.1 (run_lengths runs)

pub total-one : (r : Span) → pages_in (r ∷ []) ≡ r.1
total-one r = total-cons r [] ∙ omega arith

-- the runs of a chunk have no more pages than the chunk
few-from : (pages low : ℕ) (runs : List Span) → AreSpacedFrom low runs → EachPair (λ r. r.0 + r.1 ≤ pages) runs →
    low ≤ pages + 1 →
    low + pages_in runs ≤ pages + 1
few-from pages low [] h within le = omega (arith, le)
few-from pages low (r ∷ runs) h within le =
    omega (arith, total-cons r runs, h.0, few-from pages (r.0 + r.1 + 1) runs h.2 within.1 (omega (arith, within.0)))

pub few-pages : (pages : ℕ) (runs : List Span) → AreSpacedFrom 0 runs → EachPair (λ r. r.0 + r.1 ≤ pages) runs →
    pages_in runs ≤ pages
few-pages pages [] h within = omega arith
few-pages pages (r ∷ runs) h within =
    omega (arith, total-cons r runs, few-from pages (r.0 + r.1 + 1) runs h.2 within.1 (omega (arith, within.0)))

-- ---- a take

pub total-taken : (low at long p : ℕ) (runs : List Span) → AreSpacedFrom low runs → IsAmong (at, long) runs → p ≤ long →
    pages_in (taken_from at p runs) + p ≡ pages_in runs
total-taken low at long p [] h is le = absurd is
total-taken low at long p (r ∷ runs) h (inl e) le =
    let first : r.0 ≡ at = ap (λ (s : Span). s.0) e in
    let size : r.1 ≡ long = ap (λ (s : Span). s.1) e in
    let whole = total-cons r runs in
    let rest = total-cons (r.0 + p, r.1 - p) runs in
    rw (eq-eqb r.0 at first)
    (cond_both (r.1 == p) [] ((r.0 + p, r.1 - p) ∷ []) (λ l. pages_in (l ++ runs) + p ≡ pages_in (r ∷ runs))
    (λ all. omega (arith, whole, eqb-true r.1 p all))
    (λ _. omega (arith, whole, rest, size, le)))
total-taken low at long p (r ∷ runs) h (inr is) le =
    let far = among-later (r.0 + r.1 + 1) (at, long) runs h.2 is in
    let ih = total-taken (r.0 + r.1 + 1) at long p runs h.2 is le in
    rw (ne_eqb r.0 at (λ e. omega (arith, e, far)))
    (omega (arith, total-cons r runs, total-cons r (taken_from at p runs), ih))

-- ---- a give

total-placed : (r : Span) (runs : List Span) → pages_in (placed_in r runs) ≡ r.1 + pages_in runs
total-placed r [] = total-cons r []
total-placed r (s ∷ runs) =
    cond_both (nat_lt r.0 s.0) (r ∷ s ∷ runs) (s ∷ placed_in r runs) (λ l. pages_in l ≡ r.1 + pages_in (s ∷ runs))
    (λ _. total-cons r (s ∷ runs))
    (λ _. omega (arith, total-cons s (placed_in r runs), total-cons s runs, total-placed r runs))

total-before : (r : Span) (runs : List Span) → pages_in (merged_before r runs) ≡ r.1 + pages_in runs
total-before r [] = total-cons r []
total-before r (s ∷ runs) =
    cond_both (r.0 + r.1 == s.0) ((r.0, r.1 + s.1) ∷ runs) (r ∷ s ∷ runs) (λ l. pages_in l ≡ r.1 + pages_in (s ∷ runs))
    (λ _. omega (arith, total-cons (r.0, r.1 + s.1) runs, total-cons s runs))
    (λ _. total-cons r (s ∷ runs))

total-merged : (runs : List Span) → pages_in (merged runs) ≡ pages_in runs
total-merged [] = refl
total-merged (r ∷ runs) = omega (arith, total-before r (merged runs), total-cons r runs, total-merged runs)

pub total-given : (r : Span) (runs : List Span) → pages_in (given_back r runs) ≡ pages_in runs + r.1
total-given r runs = omega (arith, total-merged (placed_in r runs), total-placed r runs)
