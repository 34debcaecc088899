-- Free runs by the page where they begin: what a change at one page makes of the runs.
use Rattle.std.proofs.Common.{◌≡◌, ◌⊎◌, ℕ, zero, suc, ◌+◌, ◌<◌, true, false, List, [], ◌∷◌, length, get_or, refl, sym, ap, ◌∙◌, arith, eq-eqb, ne_eqb, lt-ltb, le-ltb}
use Rattle.std.specs.Prelude.{slice_set, ◌==◌, nat_lt}
use Rattle.std.proofs.lemmas.Bool.{cond_both, cases_eq}
use Rattle.size_classes.specs.Spans.{Span, placed_in}
use Rattle.size_classes.proofs.OutLaws.{IsAmong}
use Rattle.run_map.specs.Lengths.{spans_from, without}
use mathlib.Core.Logic.{inl, inr}

-- a run that begins before all of them goes first
placed-first : (low n : ℕ) (at : ℕ) (ns : List ℕ) → low < at →
    placed_in (low, n) (spans_from at ns) ≡ (low, n) ∷ spans_from at ns
placed-first low n at [] less = refl
placed-first low n at (m ∷ ns) less =
    cond_both (m == 0) (spans_from (at + 1) ns) ((at, m) ∷ spans_from (at + 1) ns)
    (λ runs. placed_in (low, n) runs ≡ (low, n) ∷ runs)
    (λ _. placed-first low n (at + 1) ns (omega (arith, less)))
    (λ _. rw (lt-ltb low at less) refl)

-- a run that comes at a page where none begins takes its place among the others
pub spans-put : (at i n : ℕ) (ns : List ℕ) → i < length ns → get_or ns i 0 ≡ 0 → 0 < n →
    spans_from at (slice_set ns i n) ≡ placed_in (at + i, n) (spans_from at ns)
spans-put at i n [] there none some = absurd (omega (arith, there))
spans-put at zero n (m ∷ ns) there none some =
    let here : (n == 0) ≡ false = ne_eqb n 0 (λ e. omega (arith, e, some)) in
    let gone : (m == 0) ≡ true = eq-eqb m 0 none in
    let same : at + 0 ≡ at = omega arith in
    rw (here, gone, same) (sym (placed-first at n (at + 1) ns (omega arith)))
spans-put at (suc i) n (m ∷ ns) there none some =
    let same : at + 1 + i ≡ at + suc i = omega arith in
    by (spans-put (at + 1) i n ns (omega (arith, there)) none some
    ∙ ap (λ (k : ℕ). placed_in (k, n) (spans_from (at + 1) ns)) same) (cases_eq m 0)
  where
    by : spans_from (at + 1) (slice_set ns i n) ≡ placed_in (at + suc i, n) (spans_from (at + 1) ns) →
        (m ≡ 0) ⊎ (m ≡ 0 → ⊥) →
        spans_from at (m ∷ slice_set ns i n) ≡ placed_in (at + suc i, n) (spans_from at (m ∷ ns))
    by ih (inl e) = rw (eq-eqb m 0 e) ih
    by ih (inr ne) =
        let later : nat_lt (at + suc i) at ≡ false = le-ltb (at + suc i) at (omega arith) in
        rw (ne_eqb m 0 ne, later) (ap (λ (runs : List Span). (at, m) ∷ runs) ih)

-- a run that goes leaves the others
without-first : (low at : ℕ) (ns : List ℕ) → low < at → without low (spans_from at ns) ≡ spans_from at ns
without-first low at [] less = refl
without-first low at (m ∷ ns) less =
    let ih = without-first low (at + 1) ns (omega (arith, less)) in
    cond_both (m == 0) (spans_from (at + 1) ns) ((at, m) ∷ spans_from (at + 1) ns)
    (λ runs. without low runs ≡ runs)
    (λ _. ih)
    (λ _. rw (ne_eqb at low (λ e. omega (arith, e, less))) (ap (λ (runs : List Span). (at, m) ∷ runs) ih))

pub spans-clear : (at i : ℕ) (ns : List ℕ) → i < length ns →
    spans_from at (slice_set ns i 0) ≡ without (at + i) (spans_from at ns)
spans-clear at i [] there = absurd (omega (arith, there))
spans-clear at zero (m ∷ ns) there =
    let same : at + 0 ≡ at = omega arith in
    rw same
    (cond_both (m == 0) (spans_from (at + 1) ns) ((at, m) ∷ spans_from (at + 1) ns)
    (λ runs. spans_from (at + 1) ns ≡ without at runs)
    (λ _. sym (without-first at (at + 1) ns (omega arith)))
    (λ _. rw (eq-eqb at at refl) refl))
spans-clear at (suc i) (m ∷ ns) there =
    let same : at + 1 + i ≡ at + suc i = omega arith in
    by (spans-clear (at + 1) i ns (omega (arith, there)) ∙ ap (λ (k : ℕ). without k (spans_from (at + 1) ns)) same)
    (cases_eq m 0)
  where
    by : spans_from (at + 1) (slice_set ns i 0) ≡ without (at + suc i) (spans_from (at + 1) ns) →
        (m ≡ 0) ⊎ (m ≡ 0 → ⊥) →
        spans_from at (m ∷ slice_set ns i 0) ≡ without (at + suc i) (spans_from at (m ∷ ns))
    by ih (inl e) = rw (eq-eqb m 0 e) ih
    by ih (inr ne) =
        rw (ne_eqb m 0 ne, ne_eqb at (at + suc i) (λ e. omega (arith, e)))
        (ap (λ (runs : List Span). (at, m) ∷ runs) ih)

-- a run that begins at a page is among them
pub spans-among : (at i n : ℕ) (ns : List ℕ) → get_or ns i 0 ≡ n → 0 < n → IsAmong (at + i, n) (spans_from at ns)
spans-among at i n [] e some = absurd (omega (arith, e, some))
spans-among at zero n (m ∷ ns) e some =
    let here : (m == 0) ≡ false = ne_eqb m 0 (λ z. omega (arith, z, e, some)) in
    rw here (inl (rw e (ap (λ (k : ℕ). (k, n)) (omega arith))))
spans-among at (suc i) n (m ∷ ns) e some =
    let same : at + 1 + i ≡ at + suc i = omega arith in
    let ih : IsAmong (at + suc i, n) (spans_from (at + 1) ns) =
    rw same at (spans-among (at + 1) i n ns e some) in
    cond_both (m == 0) (spans_from (at + 1) ns) ((at, m) ∷ spans_from (at + 1) ns) (IsAmong (at + suc i, n))
    (λ _. ih) (λ _. inr ih)
