-- Where free runs begin and end, once one goes and once one comes.
use Rattle.std.proofs.Common.{◌≡◌, ◌≢◌, ◌⊎◌, ℕ, ◌+◌, ◌-◌, ◌<◌, ◌≤◌, List, [], ◌∷◌, refl, sym, ap, ◌∙◌, subst, arith, eq-eqb, lt-ltb}
use Rattle.std.proofs.lemmas.Bool.{cases_eq, cases_lt}
use Rattle.size_classes.specs.Spans.{Span, placed_in, AreApart, AreSpacedFrom}
use Rattle.size_classes.proofs.Runs.{EachPair}
use Rattle.size_classes.proofs.OutLaws.{IsAmong, among-later}
use Rattle.run_map.specs.Lengths.{without, beginning, ending}
use Rattle.run_map.proofs.StoreSteps.{among-beginning, spaced-lower}
use Rattle.run_map.proofs.SpanSteps.{none-begins, none-ends, ending-here, ending-past, beginning-past, without-here, without-past, placed-past}
use mathlib.Core.Logic.{inl, inr}

beginning-here : (at : ℕ) (s : Span) (runs : List Span) → s.0 ≡ at → beginning at (s ∷ runs) ≡ s.1
beginning-here at s runs e = rw (eq-eqb s.0 at e) refl

pub placed-here : (r s : Span) (runs : List Span) → r.0 < s.0 → placed_in r (s ∷ runs) ≡ r ∷ s ∷ runs
placed-here r s runs less = rw (lt-ltb r.0 s.0 less) refl

-- ---- one goes

-- nothing goes where none begins
pub without-none : (low at : ℕ) (runs : List Span) → AreSpacedFrom low runs → beginning at runs ≡ 0 →
    without at runs ≡ runs
without-none low at [] h none = refl
without-none low at (r ∷ runs) h none = by (cases_eq r.0 at) (without-none (r.0 + r.1 + 1) at runs h.2)
  where
    by : (r.0 ≡ at) ⊎ (r.0 ≡ at → ⊥) → (beginning at runs ≡ 0 → without at runs ≡ runs) →
        without at (r ∷ runs) ≡ r ∷ runs
    by (inl e) ih = absurd (omega (arith, h.1, beginning-here at r runs e, none))
    by (inr ne) ih =
        without-past at r runs ne ∙ ap (λ (l : List Span). r ∷ l) (ih (sym (beginning-past at r runs ne) ∙ none))

-- what is left is in order
pub without-spaced : (low at : ℕ) (runs : List Span) → AreSpacedFrom low runs → AreSpacedFrom low (without at runs)
without-spaced low at [] h = tt
without-spaced low at (r ∷ runs) h = by (cases_eq r.0 at) (without-spaced (r.0 + r.1 + 1) at runs h.2)
  where
    by : (r.0 ≡ at) ⊎ (r.0 ≡ at → ⊥) → AreSpacedFrom (r.0 + r.1 + 1) (without at runs) →
        AreSpacedFrom low (without at (r ∷ runs))
    by (inl e) ih =
        subst (AreSpacedFrom low) (sym (without-here at r runs e))
        (spaced-lower low (r.0 + r.1 + 1) runs (omega (arith, h.0)) h.2)
    by (inr ne) ih = subst (AreSpacedFrom low) (sym (without-past at r runs ne)) (h.0, h.1, ih)

-- a run that begins there begins behind the first
begins-behind : (r : Span) (at : ℕ) (runs : List Span) → AreSpacedFrom (r.0 + r.1 + 1) runs → 0 < beginning at runs →
    r.0 + r.1 + 1 ≤ at
begins-behind r at runs h some =
    among-later (r.0 + r.1 + 1) (at, beginning at runs) runs h (among-beginning at runs some)

-- none ends where it ended
pub ending-gone : (low at p : ℕ) (runs : List Span) → AreSpacedFrom low runs → 0 < beginning at runs →
    p ≡ at + beginning at runs → ending p (without at runs) ≡ 0
ending-gone low at p [] h some e = refl
ending-gone low at p (r ∷ runs) h some e = by (cases_eq r.0 at) (ending-gone (r.0 + r.1 + 1) at p runs h.2)
  where
    by : (r.0 ≡ at) ⊎ (r.0 ≡ at → ⊥) →
        (0 < beginning at runs → p ≡ at + beginning at runs → ending p (without at runs) ≡ 0) →
        ending p (without at (r ∷ runs)) ≡ 0
    by (inl same) ih =
        let size = beginning-here at r runs same in
        ap (ending p) (without-here at r runs same)
        ∙ none-ends (r.0 + r.1 + 1) p runs (omega (arith, e, same, size)) h.2
    by (inr ne) ih =
        let size = beginning-past at r runs ne in
        let more : 0 < beginning at runs = omega (arith, some, size) in
        let far = begins-behind r at runs h.2 more in
        ap (ending p) (without-past at r runs ne)
        ∙ ending-past p r (without at runs) (λ is. omega (arith, is, far, e))
        ∙ ih more (omega (arith, e, size))

-- the others end where they ended
pub ending-kept : (low at p : ℕ) (runs : List Span) → AreSpacedFrom low runs → 0 < beginning at runs →
    p ≢ at + beginning at runs → ending p (without at runs) ≡ ending p runs
ending-kept low at p [] h some ne = refl
ending-kept low at p (r ∷ runs) h some ne =
    by (cases_eq r.0 at) (ending-kept (r.0 + r.1 + 1) at p runs h.2)
  where
    end : ending p (without at runs) ≡ ending p runs → (r.0 + r.1 ≡ p) ⊎ (r.0 + r.1 ≡ p → ⊥) →
        ending p (r ∷ without at runs) ≡ ending p (r ∷ runs)
    end ih (inl e) = ending-here p r (without at runs) e ∙ sym (ending-here p r runs e)
    end ih (inr differ) = ending-past p r (without at runs) differ ∙ ih ∙ sym (ending-past p r runs differ)

    by : (r.0 ≡ at) ⊎ (r.0 ≡ at → ⊥) →
        (0 < beginning at runs → p ≢ at + beginning at runs → ending p (without at runs) ≡ ending p runs) →
        ending p (without at (r ∷ runs)) ≡ ending p (r ∷ runs)
    by (inl same) ih =
        let size = beginning-here at r runs same in
        ap (ending p) (without-here at r runs same)
        ∙ sym (ending-past p r runs (λ is. ne (omega (arith, is, same, size))))
    by (inr other) ih =
        let size = beginning-past at r runs other in
        ap (ending p) (without-past at r runs other)
        ∙ end (ih (omega (arith, some, size)) (λ is. ne (omega (arith, is, size)))) (cases_eq (r.0 + r.1) p)

-- the others begin where they began
pub beginning-without : (at p : ℕ) (runs : List Span) → p ≢ at → beginning p (without at runs) ≡ beginning p runs
beginning-without at p [] ne = refl
beginning-without at p (r ∷ runs) ne = by (cases_eq r.0 at) (cases_eq r.0 p) (beginning-without at p runs ne)
  where
    by : (r.0 ≡ at) ⊎ (r.0 ≡ at → ⊥) → (r.0 ≡ p) ⊎ (r.0 ≡ p → ⊥) → beginning p (without at runs) ≡ beginning p runs →
        beginning p (without at (r ∷ runs)) ≡ beginning p (r ∷ runs)
    by (inl e) there ih =
        ap (beginning p) (without-here at r runs e) ∙ sym (beginning-past p r runs (λ is. ne (omega (arith, is, e))))
    by (inr other) (inl e) ih =
        ap (beginning p) (without-past at r runs other) ∙ beginning-here p r (without at runs) e
        ∙ sym (beginning-here p r runs e)
    by (inr other) (inr differ) ih =
        ap (beginning p) (without-past at r runs other) ∙ beginning-past p r (without at runs) differ ∙ ih
        ∙ sym (beginning-past p r runs differ)

-- ---- one comes

placed-among : (r : Span) (runs : List Span) → IsAmong r (placed_in r runs)
placed-among r [] = inl refl
placed-among r (s ∷ runs) = by (cases_lt r.0 s.0) (placed-among r runs)
  where
    by : (r.0 < s.0) ⊎ (s.0 ≤ r.0) → IsAmong r (placed_in r runs) → IsAmong r (placed_in r (s ∷ runs))
    by (inl less) ih = subst (IsAmong r) (sym (placed-here r s runs less)) (inl refl)
    by (inr le) ih = subst (IsAmong r) (sym (placed-past r s runs le)) (inr ih)

-- none began where it begins, and it alone ends where it does
pub placed-alone : (low : ℕ) (r : Span) (runs : List Span) → AreSpacedFrom low (placed_in r runs) →
    (beginning r.0 runs ≡ 0) × (ending (r.0 + r.1) (placed_in r runs) ≡ r.1)
placed-alone low r [] h = (refl, ending-here (r.0 + r.1) r [] refl)
placed-alone low r (s ∷ runs) h = by (cases_lt r.0 s.0) (placed-alone (s.0 + s.1 + 1) r runs)
  where
    by : (r.0 < s.0) ⊎ (s.0 ≤ r.0) → (AreSpacedFrom (s.0 + s.1 + 1) (placed_in r runs) →
        (beginning r.0 runs ≡ 0) × (ending (r.0 + r.1) (placed_in r runs) ≡ r.1)) →
        (beginning r.0 (s ∷ runs) ≡ 0) × (ending (r.0 + r.1) (placed_in r (s ∷ runs)) ≡ r.1)
    by (inl less) ih =
        let here = placed-here r s runs less in
        let spaced = subst (AreSpacedFrom low) here h in (
          none-begins (r.0 + r.1 + 1) r.0 (s ∷ runs) (omega arith) spaced.2,
          ap (ending (r.0 + r.1)) here ∙ ending-here (r.0 + r.1) r (s ∷ runs) refl,
        )
    by (inr le) ih =
        let past = placed-past r s runs le in
        let spaced = subst (AreSpacedFrom low) past h in
        let rest = ih spaced.2 in
        let far = among-later (s.0 + s.1 + 1) r (placed_in r runs) spaced.2 (placed-among r runs) in (
          beginning-past r.0 s runs (λ e. omega (arith, e, far)) ∙ rest.0,
          ap (ending (r.0 + r.1)) past ∙ ending-past (r.0 + r.1) s (placed_in r runs) (λ e. omega (arith, e, far))
              ∙ rest.1,
        )

-- the others end where they ended
pub ending-placed : (p : ℕ) (r : Span) (runs : List Span) → p ≢ r.0 + r.1 → ending p (placed_in r runs) ≡ ending p runs
ending-placed p r [] ne = ending-past p r [] (λ e. ne (sym e))
ending-placed p r (s ∷ runs) ne = by (cases_lt r.0 s.0) (ending-placed p r runs ne)
  where
    end : ending p (placed_in r runs) ≡ ending p runs → (s.0 + s.1 ≡ p) ⊎ (s.0 + s.1 ≡ p → ⊥) →
        ending p (s ∷ placed_in r runs) ≡ ending p (s ∷ runs)
    end ih (inl e) = ending-here p s (placed_in r runs) e ∙ sym (ending-here p s runs e)
    end ih (inr differ) = ending-past p s (placed_in r runs) differ ∙ ih ∙ sym (ending-past p s runs differ)

    by : (r.0 < s.0) ⊎ (s.0 ≤ r.0) → ending p (placed_in r runs) ≡ ending p runs →
        ending p (placed_in r (s ∷ runs)) ≡ ending p (s ∷ runs)
    by (inl less) ih = ap (ending p) (placed-here r s runs less) ∙ ending-past p r (s ∷ runs) (λ e. ne (sym e))
    by (inr le) ih = ap (ending p) (placed-past r s runs le) ∙ end ih (cases_eq (s.0 + s.1) p)

-- ---- neighbours

-- the run that ends at a page begins so many pages before it
pub ending-begins : (low at e : ℕ) (runs : List Span) → AreSpacedFrom low runs → e ≡ ending at runs → 0 < e →
    (beginning (at - e) runs ≡ e) × (e ≤ at)
ending-begins low at e [] h is some = absurd (omega (arith, is, some))
ending-begins low at e (r ∷ runs) h is some = by (cases_eq (r.0 + r.1) at) (ending-begins (r.0 + r.1 + 1) at e runs h.2)
  where
    by : (r.0 + r.1 ≡ at) ⊎ (r.0 + r.1 ≡ at → ⊥) →
        (e ≡ ending at runs → 0 < e → (beginning (at - e) runs ≡ e) × (e ≤ at)) →
        (beginning (at - e) (r ∷ runs) ≡ e) × (e ≤ at)
    by (inl here) ih =
        let size : e ≡ r.1 = is ∙ ending-here at r runs here in
        (beginning-here (at - e) r runs (omega (arith, here, size)) ∙ sym size, omega (arith, here, size))
    by (inr differ) ih =
        let same : e ≡ ending at runs = is ∙ ending-past at r runs differ in
        let rest = ih same some in
        let far = begins-behind r (at - e) runs h.2 (omega (arith, rest.0, some)) in
        (beginning-past (at - e) r runs (λ z. omega (arith, z, far)) ∙ rest.0, rest.1)

-- none begins in a run that is apart from them
pub apart-begins : (low : ℕ) (r : Span) (runs : List Span) → AreSpacedFrom low runs → 0 < r.1 →
    EachPair (AreApart r) runs →
    beginning r.0 runs ≡ 0
apart-begins low r [] h some apart = refl
apart-begins low r (s ∷ runs) h some apart =
    beginning-past r.0 s runs (λ e. no e apart.0) ∙ apart-begins (s.0 + s.1 + 1) r runs h.2 some apart.1
  where
    no : s.0 ≡ r.0 → AreApart r s → ⊥
    no e (inl before) = omega (arith, e, before, some)
    no e (inr after) = omega (arith, e, after, h.1)
