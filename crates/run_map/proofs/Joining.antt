-- A give: the run is joined with those beside it, and what it makes of the runs is in order.
use Rattle.std.proofs.Common.{◌≡◌, ◌⊎◌, ℕ, ◌+◌, ◌-◌, ◌<◌, ◌≤◌, List, [], ◌∷◌, refl, sym, ap, ap₂, ◌∙◌, subst, arith, eq-eqb, ne_eqb}
use Rattle.std.proofs.lemmas.Bool.{cases_eq, cases_lt}
use Rattle.size_classes.specs.Spans.{Span, merged_before, merged, placed_in, given_back, AreApart, AreSpacedFrom}
use Rattle.size_classes.proofs.Runs.{EachPair}
use Rattle.run_map.specs.Lengths.{without, beginning, ending}
use Rattle.run_map.specs.Stored.{stored, IsStore}
use Rattle.run_map.specs.declared.runs.RunLayout.{RunLayout}
use Rattle.run_map.specs.declared.store.Store.{Store}
use Rattle.run_map.proofs.StoreSteps.{spaced-lower, begins-there}
use Rattle.run_map.proofs.SpanSteps.{spaced-merged, placed-past, given-steps}
use Rattle.run_map.proofs.SpanEnds.{placed-here, beginning-without, ending-begins, without-none, apart-begins}
use Rattle.std.proofs.Common.{get_or}
use Rattle.std.proofs.lemmas.Grind.{get_or_default_zero}
use mathlib.Core.Logic.{inl, inr}

-- a run before others that are in order
before-spaced : (low : ℕ) (s : Span) (runs : List Span) → low ≤ s.0 → 0 < s.1 → AreSpacedFrom (s.0 + s.1) runs →
    AreSpacedFrom low (merged_before s runs)
before-spaced low s [] from some h = (from, some, tt)
before-spaced low s (t ∷ runs) from some h = by (cases_eq (s.0 + s.1) t.0)
  where
    by : (s.0 + s.1 ≡ t.0) ⊎ (s.0 + s.1 ≡ t.0 → ⊥) → AreSpacedFrom low (merged_before s (t ∷ runs))
    by (inl meet) =
        let same : t.0 + t.1 + 1 ≡ s.0 + (s.1 + t.1) + 1 = omega (arith, meet) in
        rw (eq-eqb (s.0 + s.1) t.0 meet) (from, omega (arith, some), subst (λ (n : ℕ). AreSpacedFrom n runs) same h.2)
    by (inr differ) = rw (ne_eqb (s.0 + s.1) t.0 differ) (from, some, (omega (arith, h.0, differ), h.1, h.2))

-- what a give makes of the runs is in order
pub given-spaced : (low : ℕ) (r : Span) (runs : List Span) → low ≤ r.0 → 0 < r.1 → AreSpacedFrom low runs →
    EachPair (AreApart r) runs → AreSpacedFrom low (given_back r runs)
given-spaced low r [] from some h apart = (from, some, tt)
given-spaced low r (s ∷ runs) from some h apart =
    by (cases_lt r.0 s.0) apart.0
    (λ le. given-spaced (s.0 + s.1) r runs le some (spaced-lower (s.0 + s.1) (s.0 + s.1 + 1) runs (omega arith) h.2)
    apart.1)
  where
    by : (r.0 < s.0) ⊎ (s.0 ≤ r.0) → AreApart r s → (s.0 + s.1 ≤ r.0 → AreSpacedFrom (s.0 + s.1) (given_back r runs)) →
        AreSpacedFrom low (given_back r (s ∷ runs))
    by (inl less) (inl far) ih =
        subst (AreSpacedFrom low)
        (sym (ap merged (placed-here r s runs less) ∙ ap (merged_before r) (spaced-merged low (s ∷ runs) h)))
        (before-spaced low r (s ∷ runs) from some (far, h.1, h.2))
    by (inl less) (inr near) ih = absurd (omega (arith, less, near, h.1))
    by (inr le) (inl far) ih = absurd (omega (arith, le, far, some))
    by (inr le) (inr near) ih =
        subst (AreSpacedFrom low) (sym (ap merged (placed-past r s runs le)))
        (before-spaced low s (given_back r runs) h.0 h.1 (ih near))

-- the run before goes, and the run behind, and the joined one comes
pub joined-placed : (r j k : Span) (runs one two : List Span) → 0 < r.1 → AreSpacedFrom 0 runs →
    EachPair (AreApart r) runs →
    one ≡ without (r.0 - ending r.0 runs) runs → j.0 ≡ r.0 - ending r.0 runs → j.1 ≡ ending r.0 runs + r.1 →
    two ≡ without (j.0 + j.1) one → k.0 ≡ j.0 → k.1 ≡ j.1 + beginning (j.0 + j.1) one →
    placed_in k two ≡ given_back r runs
joined-placed r j k runs one two some h apart once from size twice start long =
    let e : ℕ = ending r.0 runs in
    let at : ℕ = r.0 - e in
    let q : ℕ = r.0 + r.1 in
    let close : e ≤ r.0 = within (cases_lt 0 e) in
    let end : j.0 + j.1 ≡ q = omega (arith, from, size, close) in
    let behind : beginning (j.0 + j.1) one ≡ beginning q runs =
    ap₂ beginning end once ∙ beginning-without at q runs (λ same. omega (arith, same, some)) in
    let last : k.1 ≡ e + r.1 + beginning q runs = omega (arith, long, size, behind) in
    let left : two ≡ without q (without at runs) = twice ∙ ap₂ without end once in
    let one-run : k ≡ (at, e + r.1 + beginning q runs) = ap₂ (λ (a b : ℕ). (a, b)) (start ∙ from) last in
    ap (λ (x : Span). placed_in x two) one-run
    ∙ ap (placed_in (at, e + r.1 + beginning q runs)) left
    ∙ sym (given-steps 0 r runs some h apart)
  where
    within : (0 < ending r.0 runs) ⊎ (ending r.0 runs ≤ 0) → ending r.0 runs ≤ r.0
    within (inl more) = (ending-begins 0 r.0 (ending r.0 runs) runs h refl more).1
    within (inr none) = omega (arith, none)

-- ---- in a store

-- the length that is read where a run ends
pub ends-value : (l : RunLayout) (s : Store) (p x : ℕ) → IsStore l s → p ≤ l.pages → x ≡ get_or s.ends.items p x →
    x ≡ ending p (stored s)
ends-value l s p x is le read =
    read ∙ get_or_default_zero s.ends.items p x (omega (arith, le, is.long.ends)) ∙ is.ends p le

-- no run begins where the chunk ends
pub none-past : (l : RunLayout) (s : Store) (p : ℕ) → IsStore l s → l.pages ≤ p → beginning p (stored s) ≡ 0
none-past l s p is past = by (cases_lt 0 (beginning p (stored s)))
  where
    by : (0 < beginning p (stored s)) ⊎ (beginning p (stored s) ≤ 0) → beginning p (stored s) ≡ 0
    by (inl some) = absurd (omega (arith, begins-there s.begins.items p some, past, is.long.begins))
    by (inr none) = omega (arith, none)

-- where no run ends before, none goes
pub none-before : (s : Store) (r : Span) (x : ℕ) → AreSpacedFrom 0 (stored s) → 0 < r.1 →
    EachPair (AreApart r) (stored s) →
    x ≡ ending r.0 (stored s) → x ≡ 0 → stored s ≡ without (r.0 - ending r.0 (stored s)) (stored s)
none-before s r x h some apart is none =
    let at : r.0 - ending r.0 (stored s) ≡ r.0 = omega (arith, is, none) in
    sym (ap (λ (k : ℕ). without k (stored s)) at
    ∙ without-none 0 r.0 (stored s) h (apart-begins 0 r (stored s) h some apart))
