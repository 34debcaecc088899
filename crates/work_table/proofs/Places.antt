-- Elements of lists by their places.
use Rattle.std.proofs.Common.{◌≡◌, ◌<◌, ◌⊎◌, inl, inr, ⊎_elim, ℕ, zero, suc, ◌+◌, List, [], ◌∷◌, ◌++◌, set, get_or, drop, length, Some, refl, ap, ◌∙◌, subst, arith}
use Rattle.std.specs.Prelude.{All, slice_get}
use Rattle.std.proofs.lemmas.Option.{get_or_from_slice_get, slice_get-get_or, slice_get_read, slice_get_within, same_Some}
use Rattle.std.proofs.lemmas.List.{drop-drop, get_or-drop}

-- an element of a list of which one was set is the new one, or it stood there before
pub set_cases : {X : Type 0} (xs : List X) (i : ℕ) (v : X) (j : ℕ) (x : X) → slice_get (set xs i v) j ≡ Some x
    → ((j ≡ i) × (v ≡ x)) ⊎ (slice_get xs j ≡ Some x)
set_cases [] i v j x e = inr e
set_cases (y ∷ ys) zero v zero x e = inl (refl, same_Some _ _ e)
set_cases (y ∷ ys) zero v (suc j) x e = inr e
set_cases (y ∷ ys) (suc i) v zero x e = inr e
set_cases (y ∷ ys) (suc i) v (suc j) x e = ⊎_elim (λ h. inl (ap suc h.0, h.1)) inr (set_cases ys i v j x e)

-- an element behind which one more was pushed
pub pushed : {X : Type 0} (xs : List X) (y : X) (i : ℕ) (x : X) → slice_get (xs ++ y ∷ []) i ≡ Some x
    → (slice_get xs i ≡ Some x) ⊎ ((i ≡ length xs) × (y ≡ x))
pushed [] y zero x e = inr (refl, same_Some _ _ e)
pushed [] y (suc i) x e = inl e
pushed (z ∷ xs) y zero x e = inl e
pushed (z ∷ xs) y (suc i) x e = ⊎_elim inl (λ h. inr (ap suc h.0, h.1)) (pushed xs y i x e)

pub pushed_before : {X : Type 0} (xs : List X) (y : X) (i : ℕ) (x : X) → slice_get xs i ≡ Some x
    → slice_get (xs ++ y ∷ []) i ≡ Some x
pushed_before [] y i x e = absurd (cc)
pushed_before (z ∷ xs) y zero x e = e
pushed_before (z ∷ xs) y (suc i) x e = pushed_before xs y i x e

pub pushed_last : {X : Type 0} (xs : List X) (y : X) → slice_get (xs ++ y ∷ []) (length xs) ≡ Some y
pushed_last [] y = refl
pushed_last (x ∷ xs) y = pushed_last xs y

-- what was taken from the front of the rest of a list
pub removed : {X : Type 0} (xs : List X) (n : ℕ) (left : List X) (x : X) → left ≡ drop n xs → n < length xs
    → x ≡ get_or left 0 x → slice_get xs n ≡ Some x
removed xs n left x is h at =
    slice_get_read xs (length xs) n x refl h
    (at ∙ ap (λ l. get_or l 0 x) is ∙ get_or-drop n xs 0 x ∙ ap (λ k. get_or xs k x) (omega arith))

pub left_next : {X : Type 0} (xs : List X) (n : ℕ) (left : List X) → left ≡ drop n xs → drop 1 left ≡ drop (n + 1) xs
left_next xs n left is = ap (drop 1) is ∙ drop-drop 1 n xs

pub get_drop : {X : Type 0} (xs : List X) (n k : ℕ) (x : X) → slice_get (drop n xs) k ≡ Some x
    → (i : ℕ) × (slice_get xs i ≡ Some x)
get_drop xs zero k x e = (k, e)
get_drop [] (suc n) k x e = absurd (cc)
get_drop (y ∷ xs) (suc n) k x e = let r = get_drop xs n k x e in (suc r.0, r.1)

-- what holds at each place holds of all
pub all_at : {X : Type 0} (P : X → Type 0) (xs : List X) → ((i : ℕ) (x : X) → slice_get xs i ≡ Some x → P x) → All P xs
all_at P xs at = λ k d below. at k (get_or xs k d) (slice_get-get_or xs k d below)

-- and what holds of all holds at each place
pub at_all : {X : Type 0} (P : X → Type 0) (xs : List X) → All P xs → (i : ℕ) (x : X) → slice_get xs i ≡ Some x → P x
at_all P xs all i x e = subst P (get_or_from_slice_get xs i x x e) (all i x (slice_get_within xs i x e))
