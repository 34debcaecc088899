-- A take and a give as the steps that the map makes: runs that go, and one that comes.
use Rattle.std.proofs.Common.{◌≡◌, ◌⊎◌, ℕ, ◌+◌, ◌-◌, ◌<◌, ◌≤◌, false, List, [], ◌∷◌, ◌++◌, refl, sym, ap, ◌∙◌, arith, eq-eqb, ne_eqb, lt-ltb, le-ltb, eqb-true}
use Rattle.std.specs.Prelude.{nat_lt, ◌==◌, if◌then◌else◌}
use Rattle.std.proofs.lemmas.Bool.{cond_both, cases_eq, cases_lt}
use Rattle.size_classes.specs.Spans.{Span, taken_from, merged_before, merged, placed_in, given_back, AreApart, AreSpacedFrom}
use Rattle.size_classes.proofs.Runs.{EachPair}
use Rattle.size_classes.proofs.OutLaws.{IsAmong, among-later, begin-later}
use Rattle.run_map.specs.Lengths.{without, beginning, ending}
use mathlib.Core.Logic.{inl, inr}

-- the rest of a run that is taken from, if any, comes where it begins
abbrev pub with_rest : ℕ → ℕ → ℕ → List Span → List Span
with_rest at pages long runs = if long == pages then runs else placed_in (at + pages, long - pages) runs

-- what comes before the first of them goes first
pub first-placed : (low : ℕ) (r : Span) (runs : List Span) → r.0 < low → AreSpacedFrom low runs →
    placed_in r runs ≡ r ∷ runs
first-placed low r [] less h = refl
first-placed low r (s ∷ runs) less h = rw (lt-ltb r.0 s.0 (omega (arith, less, h.0))) refl

-- a take is the run that goes, and its rest that comes
pub taken-steps : (low at long pages : ℕ) (runs : List Span) → AreSpacedFrom low runs → IsAmong (at, long) runs →
    0 < pages → pages ≤ long → taken_from at pages runs ≡ with_rest at pages long (without at runs)
taken-steps low at long pages [] h is some le = absurd is
taken-steps low at long pages (r ∷ runs) h (inl e) some le =
    let first : r.0 ≡ at = ap (λ (s : Span). s.0) e in
    let size : r.1 ≡ long = ap (λ (s : Span). s.1) e in
    rw (eq-eqb r.0 at first, first, size)
    (cond_both (long == pages) [] ((at + pages, long - pages) ∷ [])
    (λ l. l ++ runs ≡ with_rest at pages long runs)
    (λ all. rw all refl)
    (λ part. rw part
    (sym (first-placed (r.0 + r.1 + 1) (at + pages, long - pages) runs (omega (arith, first, size, le)) h.2))))
taken-steps low at long pages (r ∷ runs) h (inr is) some le =
    let far = among-later (r.0 + r.1 + 1) (at, long) runs h.2 is in
    let ih = taken-steps (r.0 + r.1 + 1) at long pages runs h.2 is some le in
    let other : (r.0 == at) ≡ false = ne_eqb r.0 at (λ e. omega (arith, e, far)) in
    rw other
    (ap (λ (l : List Span). r ∷ l) ih
    ∙ cond_both (long == pages) (without at runs) (placed_in (at + pages, long - pages) (without at runs))
    (λ l. r ∷ l ≡ with_rest at pages long (r ∷ without at runs))
    (λ all. rw all refl)
    (λ part. rw (part, le-ltb (at + pages) r.0 (omega (arith, far))) refl))

-- ---- giving back

-- runs in order are merged already
pub spaced-merged : (low : ℕ) (runs : List Span) → AreSpacedFrom low runs → merged runs ≡ runs
spaced-merged low [] h = refl
spaced-merged low (s ∷ []) h = refl
spaced-merged low (s ∷ t ∷ runs) h =
    ap (merged_before s) (spaced-merged (s.0 + s.1 + 1) (t ∷ runs) h.2)
    ∙ (let ne : (s.0 + s.1 == t.0) ≡ false = ne_eqb (s.0 + s.1) t.0 (λ e. omega (arith, e, h.2.0)) in rw ne refl)

-- none begins or ends at a page that all lie behind
pub none-begins : (low at : ℕ) (runs : List Span) → at < low → AreSpacedFrom low runs → beginning at runs ≡ 0
none-begins low at [] less h = refl
none-begins low at (s ∷ runs) less h =
    rw (ne_eqb s.0 at (λ e. omega (arith, e, less, h.0)))
    (none-begins (s.0 + s.1 + 1) at runs (omega (arith, less, h.0)) h.2)

pub none-ends : (low at : ℕ) (runs : List Span) → at ≤ low → AreSpacedFrom low runs → ending at runs ≡ 0
none-ends low at [] le h = refl
none-ends low at (s ∷ runs) le h =
    rw (ne_eqb (s.0 + s.1) at (λ e. omega (arith, e, le, h.0, h.1)))
    (none-ends (s.0 + s.1 + 1) at runs (omega (arith, le, h.0)) h.2)

-- nothing goes there
pub none-goes : (low at : ℕ) (runs : List Span) → at < low → AreSpacedFrom low runs → without at runs ≡ runs
none-goes low at [] less h = refl
none-goes low at (s ∷ runs) less h =
    rw (ne_eqb s.0 at (λ e. omega (arith, e, less, h.0)))
    (ap (λ (l : List Span). s ∷ l) (none-goes (s.0 + s.1 + 1) at runs (omega (arith, less, h.0)) h.2))

-- a run that comes before all of them takes in the first, if they meet
abbrev pub joined_front : Span → List Span → List Span
joined_front r runs = (r.0, r.1 + beginning (r.0 + r.1) runs) ∷ without (r.0 + r.1) runs

front-given : (low : ℕ) (r : Span) (runs : List Span) → r.0 < low → 0 < r.1 → AreSpacedFrom low runs →
    EachPair (AreApart r) runs →
    given_back r runs ≡ joined_front r runs
front-given low r [] less some h apart = ap (λ (n : ℕ). (r.0, n) ∷ []) (omega arith)
front-given low r (s ∷ runs) less some h apart =
    ap merged (first-placed low r (s ∷ runs) less h)
    ∙ ap (merged_before r) (spaced-merged low (s ∷ runs) h)
    ∙ by apart.0 (cases_eq (r.0 + r.1) s.0)
  where
    by : AreApart r s → (r.0 + r.1 ≡ s.0) ⊎ (r.0 + r.1 ≡ s.0 → ⊥) →
        merged_before r (s ∷ runs) ≡ joined_front r (s ∷ runs)
    by a (inl meet) = rw (eq-eqb (r.0 + r.1) s.0 meet, eq-eqb s.0 (r.0 + r.1) (sym meet)) refl
    by (inl before) (inr differ) =
        let behind : r.0 + r.1 < s.0 = omega (arith, before, differ) in
        let none = none-begins (s.0 + s.1 + 1) (r.0 + r.1) runs (omega (arith, behind)) h.2 in
        let stay = none-goes (s.0 + s.1 + 1) (r.0 + r.1) runs (omega (arith, behind)) h.2 in
        rw (ne_eqb (r.0 + r.1) s.0 differ, ne_eqb s.0 (r.0 + r.1) (λ e. differ (sym e)), none, stay)
        (ap (λ (n : ℕ). (r.0, n) ∷ s ∷ runs) (omega arith))
    by (inr after) (inr differ) = absurd (omega (arith, after, less, h.0, h.1))

-- the run that ends where a page begins, begins behind the lower bound
pub ending-later : (low at : ℕ) (runs : List Span) → AreSpacedFrom low runs → low ≤ at → low ≤ at - ending at runs
ending-later low at [] h le = omega (arith, le)
ending-later low at (s ∷ runs) h le =
    cond_both (s.0 + s.1 == at) s.1 (ending at runs) (λ n. low ≤ at - n)
    (λ e. omega (arith, eqb-true (s.0 + s.1) at e, h.0))
    (λ _. go (λ more. ending-later (s.0 + s.1 + 1) at runs h.2 more) (cases_lt at (s.0 + s.1 + 1)))
  where
    go : (s.0 + s.1 + 1 ≤ at → s.0 + s.1 + 1 ≤ at - ending at runs) → (at < s.0 + s.1 + 1) ⊎ (s.0 + s.1 + 1 ≤ at) →
        low ≤ at - ending at runs
    go ih (inl less) = rw (none-ends (s.0 + s.1 + 1) at runs (omega (arith, less)) h.2) (omega (arith, le))
    go ih (inr more) = omega (arith, ih more, h.0)

-- what is left and what comes all begin behind the bound
later-without : (low at : ℕ) (runs : List Span) → EachPair (λ s. low ≤ s.0) runs →
    EachPair (λ s. low ≤ s.0) (without at runs)
later-without low at [] h = tt
later-without low at (s ∷ runs) h =
    cond_both (s.0 == at) runs (s ∷ without at runs) (EachPair (λ s. low ≤ s.0)) (λ _. h.1)
    (λ _. (h.0, later-without low at runs h.1))

later-placed : (low : ℕ) (r : Span) (runs : List Span) → low ≤ r.0 → EachPair (λ s. low ≤ s.0) runs →
    EachPair (λ s. low ≤ s.0) (placed_in r runs)
later-placed low r [] le h = (le, tt)
later-placed low r (s ∷ runs) le h =
    cond_both (nat_lt r.0 s.0) (r ∷ s ∷ runs) (s ∷ placed_in r runs) (EachPair (λ s. low ≤ s.0)) (λ _. (le, h))
    (λ _. (h.0, later-placed low r runs le h.1))

-- a run is not merged with others that begin behind it
stays-apart : (s : Span) (runs : List Span) → EachPair (λ t. s.0 + s.1 + 1 ≤ t.0) runs → merged_before s runs ≡ s ∷ runs
stays-apart s [] h = refl
stays-apart s (t ∷ runs) h = rw (ne_eqb (s.0 + s.1) t.0 (λ e. omega (arith, e, h.0))) refl

-- what begins before all of them goes first
first-of : (r : Span) (runs : List Span) → EachPair (λ s. r.0 + 1 ≤ s.0) runs → placed_in r runs ≡ r ∷ runs
first-of r [] h = refl
first-of r (s ∷ runs) h = rw (lt-ltb r.0 s.0 (omega (arith, h.0))) refl

-- the steps, at a run
pub ending-here : (at : ℕ) (s : Span) (runs : List Span) → s.0 + s.1 ≡ at → ending at (s ∷ runs) ≡ s.1
ending-here at s runs e = rw (eq-eqb (s.0 + s.1) at e) refl

pub ending-past : (at : ℕ) (s : Span) (runs : List Span) → (s.0 + s.1 ≡ at → ⊥) → ending at (s ∷ runs) ≡ ending at runs
ending-past at s runs ne = rw (ne_eqb (s.0 + s.1) at ne) refl

pub beginning-past : (at : ℕ) (s : Span) (runs : List Span) → (s.0 ≡ at → ⊥) →
    beginning at (s ∷ runs) ≡ beginning at runs
beginning-past at s runs ne = rw (ne_eqb s.0 at ne) refl

pub without-here : (at : ℕ) (s : Span) (runs : List Span) → s.0 ≡ at → without at (s ∷ runs) ≡ runs
without-here at s runs e = rw (eq-eqb s.0 at e) refl

pub without-past : (at : ℕ) (s : Span) (runs : List Span) → (s.0 ≡ at → ⊥) → without at (s ∷ runs) ≡ s ∷ without at runs
without-past at s runs ne = rw (ne_eqb s.0 at ne) refl

pub placed-past : (r s : Span) (runs : List Span) → s.0 ≤ r.0 → placed_in r (s ∷ runs) ≡ s ∷ placed_in r runs
placed-past r s runs le = rw (le-ltb r.0 s.0 le) refl

-- what a give makes of the runs, where the run before has so many pages: it and the run behind go,
-- and the joined one comes
abbrev pub joined_with : ℕ → Span → List Span → List Span
joined_with before r runs =
    placed_in (r.0 - before, before + r.1 + beginning (r.0 + r.1) runs)
    (without (r.0 + r.1) (without (r.0 - before) runs))

abbrev pub joined_in : Span → List Span → List Span
joined_in r runs = joined_with (ending r.0 runs) r runs

-- before all of them
given-front : (r s : Span) (runs : List Span) → 0 < r.1 → r.0 < s.0 → AreSpacedFrom s.0 (s ∷ runs) →
    EachPair (AreApart r) (s ∷ runs) → given_back r (s ∷ runs) ≡ joined_in r (s ∷ runs)
given-front r s runs some less h apart =
    let all : List Span = s ∷ runs in
    let q : ℕ = r.0 + r.1 in
    let b : ℕ = beginning q all in
    let none = none-ends s.0 r.0 all (omega (arith, less)) h in
    let stay = none-goes s.0 r.0 all less h in
    let same : r.0 - 0 ≡ r.0 = omega arith in
    let more : 0 + r.1 + b ≡ r.1 + b = omega arith in
    let later = later-without (r.0 + 1) q all (begin-later (r.0 + 1) s.0 all (omega (arith, less)) h) in
    front-given s.0 r all less some h apart
    ∙ sym (first-of (r.0, r.1 + b) (without q all) later)
    ∙ sym (ap (λ (n : ℕ). joined_with n r all) none
    ∙ ap (λ (k : ℕ). placed_in (k, 0 + r.1 + b) (without q (without k all))) same
    ∙ ap (λ (m : ℕ). placed_in (r.0, m) (without q (without r.0 all))) more
    ∙ ap (λ (l : List Span). placed_in (r.0, r.1 + b) (without q l)) stay)

-- right behind the first
given-meets : (r s : Span) (runs : List Span) → 0 < r.1 → s.0 + s.1 ≡ r.0 → 0 < s.1 →
    AreSpacedFrom (s.0 + s.1 + 1) runs → EachPair (AreApart r) runs → given_back r (s ∷ runs) ≡ joined_in r (s ∷ runs)
given-meets r s runs some meet one h apart =
    let q : ℕ = r.0 + r.1 in
    let b : ℕ = beginning q runs in
    let l : List Span = without q runs in
    let other : s.0 ≡ q → ⊥ = λ e. omega (arith, e, meet, some) in
    let back : r.0 - s.1 ≡ s.0 = omega (arith, meet) in
    let sum : s.1 + r.1 + b ≡ s.1 + (r.1 + b) = omega arith in
    let later = later-without (s.0 + 1) q runs (begin-later (s.0 + 1) (s.0 + s.1 + 1) runs (omega arith) h) in
    let joins : merged_before s ((r.0, r.1 + b) ∷ l) ≡ (s.0, s.1 + (r.1 + b)) ∷ l =
    rw (eq-eqb (s.0 + s.1) r.0 meet) refl in
    ap merged (placed-past r s runs (omega (arith, meet)))
    ∙ ap (merged_before s) (front-given (s.0 + s.1 + 1) r runs (omega (arith, meet)) some h apart)
    ∙ joins
    ∙ sym (ap (λ (n : ℕ). joined_with n r (s ∷ runs)) (ending-here r.0 s runs meet)
    ∙ ap (λ (n : ℕ). placed_in (r.0 - s.1, s.1 + r.1 + n) (without q (without (r.0 - s.1) (s ∷ runs))))
    (beginning-past q s runs other)
    ∙ ap (λ (rest : List Span). placed_in (r.0 - s.1, s.1 + r.1 + b) (without q rest))
    (without-here (r.0 - s.1) s runs (sym back))
    ∙ ap (λ (k : ℕ). placed_in (k, s.1 + r.1 + b) l) back
    ∙ ap (λ (n : ℕ). placed_in (s.0, n) l) sum
    ∙ first-of (s.0, s.1 + (r.1 + b)) l later)

-- further behind
given-past : (r s : Span) (runs : List Span) → 0 < r.1 → s.0 + s.1 < r.0 → AreSpacedFrom (s.0 + s.1 + 1) runs →
    given_back r runs ≡ joined_in r runs → given_back r (s ∷ runs) ≡ joined_in r (s ∷ runs)
given-past r s runs some far h ih =
    let q : ℕ = r.0 + r.1 in
    let low : ℕ = s.0 + s.1 + 1 in
    let e : ℕ = ending r.0 runs in
    let k : ℕ = r.0 - e in
    let n : ℕ = e + r.1 + beginning q runs in
    let from : low ≤ k = ending-later low r.0 runs h (omega (arith, far)) in
    let all-later = begin-later low low runs (omega arith) h in
    let later = later-placed low (k, n) (without q (without k runs)) from
    (later-without low q (without k runs) (later-without low k runs all-later)) in
    let not-q : s.0 ≡ q → ⊥ = λ is. omega (arith, is, far, some) in
    let not-k : s.0 ≡ k → ⊥ = λ is. omega (arith, is, from) in
    ap merged (placed-past r s runs (omega (arith, far)))
    ∙ ap (merged_before s) ih
    ∙ stays-apart s (joined_in r runs) later
    ∙ sym (ap (λ (m : ℕ). joined_with m r (s ∷ runs)) (ending-past r.0 s runs (λ is. omega (arith, is, far)))
    ∙ ap (λ (m : ℕ). placed_in (k, e + r.1 + m) (without q (without k (s ∷ runs)))) (beginning-past q s runs not-q)
    ∙ ap (λ (rest : List Span). placed_in (k, n) (without q rest)) (without-past k s runs not-k)
    ∙ ap (placed_in (k, n)) (without-past q s (without k runs) not-q)
    ∙ placed-past (k, n) s (without q (without k runs)) (omega (arith, from)))

pub given-steps : (low : ℕ) (r : Span) (runs : List Span) → 0 < r.1 → AreSpacedFrom low runs →
    EachPair (AreApart r) runs →
    given_back r runs ≡ joined_in r runs
given-steps low r [] some h apart =
    ap (λ (k : ℕ). (k, r.1) ∷ []) (omega arith) ∙ ap (λ (n : ℕ). (r.0 - 0, n) ∷ []) (omega arith)
given-steps low r (s ∷ runs) some h apart =
    by (given-steps (s.0 + s.1 + 1) r runs some h.2 apart.1) (cases_lt r.0 s.0) apart.0
  where
    behind : given_back r runs ≡ joined_in r runs → s.0 + s.1 ≤ r.0 → (s.0 + s.1 ≡ r.0) ⊎ (s.0 + s.1 ≡ r.0 → ⊥) →
        given_back r (s ∷ runs) ≡ joined_in r (s ∷ runs)
    behind ih le (inl meet) = given-meets r s runs some meet h.1 h.2 apart.1
    behind ih le (inr differ) = given-past r s runs some (omega (arith, le, differ)) h.2 ih

    by : given_back r runs ≡ joined_in r runs → (r.0 < s.0) ⊎ (s.0 ≤ r.0) → AreApart r s →
        given_back r (s ∷ runs) ≡ joined_in r (s ∷ runs)
    by ih (inl less) a = given-front r s runs some less (omega arith, h.1, h.2) apart
    by ih (inr more) (inl before) = absurd (omega (arith, more, before, some))
    by ih (inr more) (inr le) = behind ih le (cases_eq (s.0 + s.1) r.0)
