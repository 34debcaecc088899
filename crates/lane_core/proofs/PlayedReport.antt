-- Leaks in order: lists of the same leaks, by lane and serial and none twice, are the same.
use Rattle.std.proofs.Common.{⊎_elim, inl, inr, ◌≡◌, ℕ, zero, suc, ◌<◌, ◌≤◌, List, [], ◌∷◌, ◌++◌, length, refl, sym, ap, subst, arith, Some, ◌∙◌}
use Rattle.std.specs.Prelude.{◌⊎◌, AllPairs, slice_get, slice_index_or}
use Rattle.std.proofs.lemmas.Bool.{cases_lt}
use Rattle.pool_law.specs.declared.report.Leak.{Leak}
use Rattle.leak_records.specs.Reports.{IsNotAfter}
use Rattle.shared_pool.proofs.ClosingHistories.{pairs_tail}

-- an item of a list
abbrev pub In : {X : Type 0} → X → List X → Type 0
In x xs = (k : ℕ) × (slice_get xs k ≡ Some x)

pub in-cases : {X : Type 0} (x y : X) (ys : List X) → In x (y ∷ ys) → (y ≡ x) ⊎ In x ys
in-cases x y ys (zero, e) = inl (cc e)
in-cases x y ys (suc k, e) = inr (k, e)

pub in-append : {X : Type 0} (x : X) (xs ys : List X) → In x (xs ++ ys) → In x xs ⊎ In x ys
in-append x [] ys i = inr i
in-append x (z ∷ xs) ys (zero, e) = inl (0, e)
in-append x (z ∷ xs) ys (suc k, e) =
    ⊎_elim (λ (i : In x xs). inl (suc i.0, i.1)) (λ (i : In x ys). inr i) (in-append x xs ys (k, e))

pub in-left : {X : Type 0} (x : X) (xs ys : List X) → In x xs → In x (xs ++ ys)
in-left x [] ys (k, e) = absurd (cc e)
in-left x (z ∷ xs) ys (zero, e) = (0, e)
in-left x (z ∷ xs) ys (suc k, e) = let i = in-left x xs ys (k, e) in (suc i.0, i.1)

pub in-right : {X : Type 0} (x : X) (xs ys : List X) → In x ys → In x (xs ++ ys)
in-right x [] ys i = i
in-right x (z ∷ xs) ys i = let j = in-right x xs ys i in (suc j.0, j.1)

-- a leak of a lower lane, or of the same lane and of a lower serial
abbrev pub IsBefore : Leak → Leak → Type 0
IsBefore a b = (a.lane < b.lane) ⊎ ((a.lane ≡ b.lane) × (a.serial < b.serial))

-- in order, and none twice
abbrev pub Ascends : List Leak → Type 0
Ascends [] = Unit {0}
Ascends (x ∷ xs) = ((y : Leak) → In y xs → IsBefore x y) × Ascends xs

not-both : (a b : Leak) → IsBefore a b → IsBefore b a → ⊥
not-both a b p q =
    ⊎_elim
    (λ (l : a.lane < b.lane). ⊎_elim (λ (m : b.lane < a.lane). omega (arith, l, m))
    (λ (m : (b.lane ≡ a.lane) × (b.serial < a.serial)). omega (arith, l, m.0)) q)
    (λ (l : (a.lane ≡ b.lane) × (a.serial < b.serial)). ⊎_elim (λ (m : b.lane < a.lane). omega (arith, l.0, m))
    (λ (m : (b.lane ≡ a.lane) × (b.serial < a.serial)). omega (arith, l.1, m.1)) q)
    p

pub same-leaks : (xs ys : List Leak) → Ascends xs → Ascends ys → ((x : Leak) → In x xs → In x ys)
    → ((y : Leak) → In y ys → In y xs) → xs ≡ ys
same-leaks [] [] a b f g = refl
same-leaks [] (y ∷ ys) a b f g = let i = g y (0, refl) in absurd (none i)
  where
    none : In y [] → ⊥
    none (k, e) = absurd (cc e)
same-leaks (x ∷ xs) [] a b f g = let i = f x (0, refl) in absurd (none i)
  where
    none : In x [] → ⊥
    none (k, e) = absurd (cc e)
same-leaks (x ∷ xs) (y ∷ ys) a b f g =
    ap (λ z. z ∷ xs) head ∙ ap (λ t. y ∷ t) (same-leaks xs ys a.1 b.1 down up)
  where
    head : x ≡ y
    head =
        ⊎_elim (λ (e : y ≡ x). sym e)
        (λ (i : In x ys). ⊎_elim (λ (e : x ≡ y). e) (λ (j : In y xs). absurd (not-both x y (a.0 y j) (b.0 x i)))
        (in-cases y x xs (g y (0, refl))))
        (in-cases x y ys (f x (0, refl)))

    itself : (z : Leak) → IsBefore z z → ⊥
    itself z p = not-both z z p p

    down : (z : Leak) → In z xs → In z ys
    down z i =
        ⊎_elim (λ (e : y ≡ z). absurd (itself z (subst (λ w. IsBefore w z) (head ∙ e) (a.0 z i)))) (λ (j : In z ys). j)
        (in-cases z y ys (f z (suc i.0, i.1)))

    up : (z : Leak) → In z ys → In z xs
    up z i =
        ⊎_elim (λ (e : x ≡ z). absurd (itself z (subst (λ w. IsBefore w z) (sym head ∙ e) (b.0 z i))))
        (λ (j : In z xs). j)
        (in-cases z x xs (g z (suc i.0, i.1)))

-- ---- Leaks that are sorted, and no two of one lane and serial.

pub index-of : {X : Type 0} (xs : List X) (k : ℕ) (x d : X) → slice_get xs k ≡ Some x
    → (slice_index_or xs k d ≡ x) × (k < length xs)
index-of [] k x d e = absurd (cc e)
index-of (y ∷ ys) zero x d e = (cc e, omega arith)
index-of (y ∷ ys) (suc k) x d e = let i = index-of ys k x d e in (i.0, omega (arith, i.1))

pub pair-of : {X : Type 0} (R : X → X → Type 0) (xs : List X) (i j : ℕ) (x y : X) → AllPairs R xs
    → slice_get xs i ≡ Some x → slice_get xs j ≡ Some y → i < j → R x y
pair-of R xs i j x y all a b lt =
    subst (λ z. R z y) (index-of xs i x x a).0
    (subst (R (slice_index_or xs i x)) (index-of xs j y x b).0 (all i j x lt (index-of xs j y x b).1))

-- two leaks of one lane and serial stand at one place
abbrev pub OnceEach : List Leak → Type 0
OnceEach xs =
    (i j : ℕ) (x y : Leak) → slice_get xs i ≡ Some x → slice_get xs j ≡ Some y → x.lane ≡ y.lane → x.serial ≡ y.serial
    → i ≡ j

pub ascends : (xs : List Leak) → AllPairs IsNotAfter xs → OnceEach xs → Ascends xs
ascends [] all once = tt
ascends (x ∷ xs) all once = (
  first,
  ascends xs (pairs_tail IsNotAfter x xs all)
      (λ i j y z a b l s. omega (arith, once (suc i) (suc j) y z a b l s)),
)
  where
    first : (y : Leak) → In y xs → IsBefore x y
    first y (k, e) =
        ⊎_elim (λ (lt : x.lane < y.lane). inl lt)
        (λ (m : (x.lane ≡ y.lane) × (x.serial ≤ y.serial)).
        ⊎_elim (λ (lt : x.serial < y.serial). inr (m.0, lt))
        (λ (same : y.serial ≤ x.serial). absurd
        (omega (arith, once 0 (suc k) x y refl e m.0 (omega (arith, m.1, same)))))
        (cases_lt x.serial y.serial))
        (pair-of IsNotAfter (x ∷ xs) 0 (suc k) x y all refl e (omega arith))
