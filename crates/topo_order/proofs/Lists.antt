-- Elements of lists by their places.
use Rattle.std.proofs.Common.{◌≡◌, ◌≢◌, ◌<◌, ◌⊎◌, inl, inr, ⊎_elim, ℕ, zero, suc, ◌+◌, ◌-◌, List, [], ◌∷◌, ◌++◌, set, take, drop, length, Some, refl, ap, sym, arith, ◌∙◌}
use Rattle.std.specs.Prelude.{slice_get}
use Rattle.std.proofs.lemmas.Option.{same_Some}

pub within : {X : Type 0} (xs : List X) (k : ℕ) (x : X) → slice_get xs k ≡ Some x → k < length xs
within [] k x e = absurd (cc)
within (y ∷ ys) zero x e = omega arith
within (y ∷ ys) (suc k) x e = omega (arith, within ys k x e)

pub item : {X : Type 0} (xs : List X) (k : ℕ) → k < length xs → (x : X) × (slice_get xs k ≡ Some x)
item [] k low = absurd (omega arith)
item (x ∷ xs) zero low = (x, refl)
item (x ∷ xs) (suc k) low = item xs k (omega arith)

pub get_set : {X : Type 0} (xs : List X) (i : ℕ) (x : X) → i < length xs → slice_get (set xs i x) i ≡ Some x
get_set [] i x h = absurd (omega arith)
get_set (y ∷ ys) zero x h = refl
get_set (y ∷ ys) (suc i) x h = get_set ys i x (omega arith)

pub get_set_other : {X : Type 0} (xs : List X) (i j : ℕ) (x : X) → j ≢ i → slice_get (set xs i x) j ≡ slice_get xs j
get_set_other [] i j x h = refl
get_set_other (y ∷ ys) zero zero x h = absurd (h refl)
get_set_other (y ∷ ys) zero (suc j) x h = refl
get_set_other (y ∷ ys) (suc i) zero x h = refl
get_set_other (y ∷ ys) (suc i) (suc j) x h = get_set_other ys i j x (λ e. h (ap suc e))

-- what stands elsewhere stays, if something else is set
pub get_kept : {X : Type 0} (xs : List X) (i j : ℕ) (old new x : X) → slice_get xs i ≡ Some old
    → slice_get xs j ≡ Some x → (old ≡ x → ⊥) → slice_get (set xs i new) j ≡ Some x
get_kept xs i j old new x was is other =
    get_set_other xs i j new (λ e. other (same_Some _ _ (sym was ∙ ap (slice_get xs) (sym e) ∙ is))) ∙ is

-- an element of a list of which one was set is the new one, or it stood there before
pub set_cases : {X : Type 0} (xs : List X) (i : ℕ) (v : X) (j : ℕ) (x : X) → slice_get (set xs i v) j ≡ Some x
    → ((j ≡ i) × (v ≡ x)) ⊎ (slice_get xs j ≡ Some x)
set_cases [] i v j x e = inr e
set_cases (y ∷ ys) zero v zero x e = inl (refl, same_Some _ _ e)
set_cases (y ∷ ys) zero v (suc j) x e = inr e
set_cases (y ∷ ys) (suc i) v zero x e = inr e
set_cases (y ∷ ys) (suc i) v (suc j) x e = ⊎_elim (λ h. inl (ap suc h.0, h.1)) inr (set_cases ys i v j x e)

-- an element behind which one more was pushed
pub pushed : {X : Type 0} (xs : List X) (y : X) (i : ℕ) (x : X) → slice_get (xs ++ y ∷ []) i ≡ Some x
    → (slice_get xs i ≡ Some x) ⊎ ((i ≡ length xs) × (y ≡ x))
pushed [] y zero x e = inr (refl, same_Some _ _ e)
pushed [] y (suc i) x e = inl e
pushed (z ∷ xs) y zero x e = inl e
pushed (z ∷ xs) y (suc i) x e = ⊎_elim inl (λ h. inr (ap suc h.0, h.1)) (pushed xs y i x e)

pub pushed_before : {X : Type 0} (xs : List X) (y : X) (i : ℕ) (x : X) → slice_get xs i ≡ Some x
    → slice_get (xs ++ y ∷ []) i ≡ Some x
pushed_before [] y i x e = absurd (cc)
pushed_before (z ∷ xs) y zero x e = e
pushed_before (z ∷ xs) y (suc i) x e = pushed_before xs y i x e

pub pushed_last : {X : Type 0} (xs : List X) (y : X) → slice_get (xs ++ y ∷ []) (length xs) ≡ Some y
pushed_last [] y = refl
pushed_last (x ∷ xs) y = pushed_last xs y

-- what stands in a front stands in the list, and the other way round
pub in_front : {X : Type 0} (xs : List X) (n k : ℕ) (x : X) → slice_get (take n xs) k ≡ Some x
    → (k < n) × (slice_get xs k ≡ Some x)
in_front xs zero k x e = absurd (cc)
in_front [] (suc n) k x e = absurd (cc)
in_front (y ∷ ys) (suc n) zero x e = (omega arith, e)
in_front (y ∷ ys) (suc n) (suc k) x e = let r = in_front ys n k x e in (omega (arith, r.0), r.1)

pub front_has : {X : Type 0} (xs : List X) (n k : ℕ) (x : X) → slice_get xs k ≡ Some x → k < n
    → slice_get (take n xs) k ≡ Some x
front_has xs zero k x e low = absurd (omega arith)
front_has [] (suc n) k x e low = e
front_has (y ∷ ys) (suc n) zero x e low = e
front_has (y ∷ ys) (suc n) (suc k) x e low = front_has ys n k x e (omega arith)

-- what stands behind a front
pub get_drop : {X : Type 0} (xs : List X) (n k : ℕ) → slice_get (drop n xs) k ≡ slice_get xs (n + k)
get_drop xs zero k = ap (slice_get xs) (omega arith)
get_drop [] (suc n) k = refl
get_drop (y ∷ ys) (suc n) k =
    let next : suc n + k ≡ suc (n + k) = omega arith in
    get_drop ys n k ∙ ap (slice_get (y ∷ ys)) (sym next)

pub length_drop : {X : Type 0} (xs : List X) (n : ℕ) → length (drop n xs) ≡ length xs - n
length_drop xs zero = omega arith
length_drop [] (suc n) = omega arith
length_drop (y ∷ ys) (suc n) = omega (arith, length_drop ys n)

pub nothing : {X : Type 0} (xs : List X) → length xs ≡ zero → xs ≡ []
nothing [] e = refl
nothing (x ∷ xs) e = absurd (omega (arith, e))
