-- Runs that are out: what is taken is out then, and what else is out stays out.
use Rattle.std.proofs.Common.{◌≡◌, ◌⊎◌, ℕ, zero, suc, ◌+◌, ◌-◌, ◌<◌, ◌≤◌, List, [], ◌∷◌, ◌++◌, refl, sym, subst, arith, eqb-true}
use Rattle.std.specs.Prelude.{nat_lt, ◌==◌, All}
use Rattle.std.proofs.lemmas.Bool.{cond_both, eq-eqb, ne_eqb}
use Rattle.size_classes.specs.Spans.{Span, rest_of, taken_from, merged_before, merged, placed_in, given_back, AreApart, AreSpacedFrom}
use Rattle.size_classes.proofs.Runs.{EachPair, EachPair-map}
use mathlib.Core.Logic.{inl, inr}

-- ---- a fact of each, by place and by element

pub each-of : {X : Type 0} (P : X → Type 0) (xs : List X) → All P xs → EachPair P xs
each-of P [] h = tt
each-of P (x ∷ xs) h = (h 0 x (omega arith), each-of P xs (λ k d less. h (suc k) d (omega (arith, less))))

pub all-of : {X : Type 0} (P : X → Type 0) (xs : List X) → EachPair P xs → All P xs
all-of P [] e k d less = absurd (omega (arith, less))
all-of P (x ∷ xs) e zero d less = e.0
all-of P (x ∷ xs) e (suc k) d less = all-of P xs e.1 k d (omega (arith, less))

-- x is one of the runs
abbrev pub IsAmong : Span → List Span → Type 0
IsAmong x [] = ⊥
IsAmong x (r ∷ runs) = (r ≡ x) ⊎ IsAmong x runs

-- ---- runs in order

-- all begin at the page or later
pub begin-later : (low high : ℕ) (runs : List Span) → low ≤ high → AreSpacedFrom high runs →
    EachPair (λ r. low ≤ r.0) runs
begin-later low high [] le h = tt
begin-later low high (r ∷ runs) le h =
    (omega (arith, le, h.0), begin-later low (r.0 + r.1 + 1) runs (omega (arith, le, h.0)) h.2)

pub among-later : (low : ℕ) (x : Span) (runs : List Span) → AreSpacedFrom low runs → IsAmong x runs → low ≤ x.0
among-later low x [] h is = absurd is
among-later low x (r ∷ runs) h (inl e) = subst (λ (s : Span). low ≤ s.0) e h.0
among-later low x (r ∷ runs) h (inr is) = omega (arith, h.0, among-later (r.0 + r.1 + 1) x runs h.2 is)

-- ---- taking

-- where pages are taken from a run, what is apart from the runs is apart from what is left
pub taken-apart : (q : Span) (at pages : ℕ) (runs : List Span) →
    EachPair (λ r. r.0 ≡ at → pages ≤ r.1) runs → EachPair (AreApart q) runs →
    EachPair (AreApart q) (taken_from at pages runs)
taken-apart q at pages [] fits apart = tt
taken-apart q at pages (r ∷ runs) fits apart =
    let ih = taken-apart q at pages runs fits.1 apart.1 in
    cond_both (r.0 == at) (rest_of pages r ++ runs) (r ∷ taken_from at pages runs) (EachPair (AreApart q))
    (λ here. rest (fits.0 (eqb-true r.0 at here)) apart.0)
    (λ _. (apart.0, ih))
  where
    rest : pages ≤ r.1 → AreApart q r → EachPair (AreApart q) (rest_of pages r ++ runs)
    rest le a =
        cond_both (r.1 == pages) [] ((r.0 + pages, r.1 - pages) ∷ []) (λ l. EachPair (AreApart q) (l ++ runs))
        (λ _. apart.1)
        (λ _. (part le a, apart.1))
      where
        part : pages ≤ r.1 → AreApart q r → AreApart q (r.0 + pages, r.1 - pages)
        part le (inl before) = inl (omega (arith, before))
        part le (inr after) = inr (omega (arith, after, le))

-- the pages fit the one run that begins there
pub taken-fits : (low at long pages : ℕ) (runs : List Span) → AreSpacedFrom low runs → IsAmong (at, long) runs →
    pages ≤ long → EachPair (λ r. r.0 ≡ at → pages ≤ r.1) runs
taken-fits low at long pages [] h is le = absurd is
taken-fits low at long pages (r ∷ runs) h (inl e) le =
    let first : at ≡ r.0 = subst (λ (s : Span). s.0 ≡ r.0) e refl in
    let size : long ≡ r.1 = subst (λ (s : Span). s.1 ≡ r.1) e refl in (
      λ _. omega (arith, size, le),
      EachPair-map (λ s. r.0 + r.1 + 1 ≤ s.0) (λ s. s.0 ≡ at → pages ≤ s.1)
          (λ s far same. absurd (omega (arith, far, same, first))) runs
          (begin-later (r.0 + r.1 + 1) (r.0 + r.1 + 1) runs (omega arith) h.2),
    )
taken-fits low at long pages (r ∷ runs) h (inr is) le =
    let far = among-later (r.0 + r.1 + 1) (at, long) runs h.2 is in
    (λ same. absurd (omega (arith, same, far)), taken-fits (r.0 + r.1 + 1) at long pages runs h.2 is le)

-- and what is taken is apart from what is left
pub taken-out : (low at long pages : ℕ) (runs : List Span) → AreSpacedFrom low runs → IsAmong (at, long) runs →
    pages ≤ long → EachPair (AreApart (at, pages)) (taken_from at pages runs)
taken-out low at long pages [] h is le = absurd is
taken-out low at long pages (r ∷ runs) h (inl e) le =
    let first : at ≡ r.0 = subst (λ (s : Span). s.0 ≡ r.0) e refl in
    let size : long ≡ r.1 = subst (λ (s : Span). s.1 ≡ r.1) e refl in
    let later =
    EachPair-map (λ s. r.0 + r.1 + 1 ≤ s.0) (AreApart (at, pages)) (λ s far. inl (omega (arith, far, first, size, le)))
    runs (begin-later (r.0 + r.1 + 1) (r.0 + r.1 + 1) runs (omega arith) h.2) in
    rw (eq-eqb r.0 at (sym first))
    (cond_both (r.1 == pages) [] ((r.0 + pages, r.1 - pages) ∷ []) (λ l. EachPair (AreApart (at, pages)) (l ++ runs))
    (λ _. later)
    (λ _. (inl (omega (arith, first)), later)))
taken-out low at long pages (r ∷ runs) h (inr is) le =
    let far = among-later (r.0 + r.1 + 1) (at, long) runs h.2 is in
    let ih = taken-out (r.0 + r.1 + 1) at long pages runs h.2 is le in
    rw (ne_eqb r.0 at (λ same. omega (arith, same, far))) (inr (omega (arith, far)), ih)

-- ---- giving back

placed-each : (P : Span → Type 0) (r : Span) (runs : List Span) → P r → EachPair P runs → EachPair P (placed_in r runs)
placed-each P r [] p h = (p, tt)
placed-each P r (s ∷ runs) p h =
    let ih = placed-each P r runs p h.1 in
    cond_both (nat_lt r.0 s.0) (r ∷ s ∷ runs) (s ∷ placed_in r runs) (EachPair P) (λ _. (p, h)) (λ _. (h.0, ih))

-- two runs that meet are apart from what each is apart from
joined-apart : (q r s : Span) → 0 < q.1 → r.0 + r.1 ≡ s.0 → AreApart q r → AreApart q s → AreApart q (r.0, r.1 + s.1)
joined-apart q r s some meet (inl before) b = inl before
joined-apart q r s some meet (inr after) (inl before) = absurd (omega (arith, some, meet, after, before))
joined-apart q r s some meet (inr after) (inr later) = inr (omega (arith, meet, later))

before-apart : (q r : Span) (runs : List Span) → 0 < q.1 → AreApart q r → EachPair (AreApart q) runs →
    EachPair (AreApart q) (merged_before r runs)
before-apart q r [] some a h = (a, tt)
before-apart q r (s ∷ runs) some a h =
    cond_both (r.0 + r.1 == s.0) ((r.0, r.1 + s.1) ∷ runs) (r ∷ s ∷ runs) (EachPair (AreApart q))
    (λ meet. (joined-apart q r s some (eqb-true (r.0 + r.1) s.0 meet) a h.0, h.1))
    (λ _. (a, h))

merged-each : (q : Span) (runs : List Span) → 0 < q.1 → EachPair (AreApart q) runs → EachPair (AreApart q) (merged runs)
merged-each q [] some h = tt
merged-each q (r ∷ runs) some h = before-apart q r (merged runs) some h.0 (merged-each q runs some h.1)

-- what is apart from the runs and from the one that is given back, is apart from what they make
pub given-apart : (q r : Span) (runs : List Span) → 0 < q.1 → AreApart q r → EachPair (AreApart q) runs →
    EachPair (AreApart q) (given_back r runs)
given-apart q r runs some a h = merged-each q (placed_in r runs) some (placed-each (AreApart q) r runs a h)
