-- Fronts of a list of steps: what was made in them.
use Rattle.std.proofs.Common.{◌≡◌, ℕ, zero, suc, ◌+◌, ◌≤◌, Bool, true, false, List, [], ◌∷◌, ◌++◌, take, drop, refl, ap, arith, Some}
use Rattle.std.specs.Prelude.{◌<◌, slice_get}
use Rattle.std.proofs.lemmas.Bool.{cond_both}
use Rattle.pool_law.specs.declared.note.Note.{Note}
use Rattle.pool_law.specs.Legal.{one_if}
use Rattle.run_order.specs.Order.{Step, made}

-- what holds at either value of a test holds at the test
pub by-test : (P : Bool → Type 0) (b : Bool) → (b ≡ true → P true) → (b ≡ false → P false) → P b
by-test P true passes fails = passes refl
by-test P false passes fails = fails refl

-- a list is what stands before one of its items, the item, and what stands behind it
pub split-at : {X : Type 0} (xs : List X) (p : ℕ) (x : X) → slice_get xs p ≡ Some x
    → xs ≡ take p xs ++ x ∷ drop (suc p) xs
split-at [] p x e = absurd (cc e)
split-at (y ∷ ys) zero x e = let same : y ≡ x = cc e in ap (λ z. z ∷ ys) same
split-at (y ∷ ys) (suc p) x e = ap (λ zs. y ∷ zs) (split-at ys p x e)

-- one step more
pub made-next : (test : Note → Bool) (xs : List Step) (k : ℕ) (x : Step) → slice_get xs k ≡ Some x
    → made test (take (suc k) xs) ≡ made test (take k xs) + one_if (test x.note)
made-next test [] k x e = absurd (cc e)
made-next test (y ∷ ys) zero x e =
    let same : y ≡ x = cc e in omega (arith, ap (λ z. one_if (test z.note)) same)
made-next test (y ∷ ys) (suc k) x e = omega (arith, made-next test ys k x e)

-- a longer front has no less
pub made-more : (test : Note → Bool) (xs : List Step) (k m : ℕ) → k ≤ m
    → made test (take k xs) ≤ made test (take m xs)
made-more test xs zero m h = omega arith
made-more test [] (suc k) zero h = omega arith
made-more test [] (suc k) (suc m) h = omega arith
made-more test (x ∷ xs) (suc k) zero h = absurd (omega arith)
made-more test (x ∷ xs) (suc k) (suc m) h = omega (arith, made-more test xs k m (omega arith))

-- what was made in a front stands there
pub made-found : (test : Note → Bool) (xs : List Step) (k : ℕ) → 0 < made test (take k xs)
    → (p : ℕ) × (x : Step) × (p < k) × (slice_get xs p ≡ Some x) × (test x.note ≡ true)
made-found test xs zero h = absurd (omega arith)
made-found test [] (suc k) h = absurd (omega arith)
made-found test (x ∷ xs) (suc k) h =
    cond_both (test x.note) 1 0
    (λ z. 0 < z + made test (take k xs) → (p : ℕ) × (y : Step) × (p < suc k)
    × (slice_get (x ∷ xs) p ≡ Some y) × (test y.note ≡ true))
    (λ passes _. (0, x, omega arith, refl, passes))
    (λ _ more. let r = made-found test xs k (omega arith) in (suc r.0, r.1, omega (arith, r.2), r.3, r.4))
    h

-- what stands in a front was made there
pub found-made : (test : Note → Bool) (xs : List Step) (p k : ℕ) (x : Step) → slice_get xs p ≡ Some x
    → test x.note ≡ true → p < k → 0 < made test (take k xs)
found-made test xs p k x e passes low =
    let next : made test (take (suc p) xs) ≡ made test (take p xs) + one_if (test x.note) = made-next test xs p x e in
    let one : one_if (test x.note) ≡ 1 = ap one_if passes in
    let more : made test (take (suc p) xs) ≤ made test (take k xs) = made-more test xs (suc p) k (omega arith) in
    omega (arith, next, one, more)
