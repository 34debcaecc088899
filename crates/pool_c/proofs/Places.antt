-- What is at a place of a list.
use Rattle.std.proofs.Common.{◌≡◌, ◌⊎◌, ℕ, zero, suc, ◌+◌, ◌<◌, ◌≤◌, List, [], ◌∷◌, length, map, Some, refl, sym, ap, ◌∙◌, subst, arith}
use Rattle.std.specs.Prelude.{All, slice_get, slice_index_or}
use Rattle.std.proofs.lemmas.Bool.{cases_lt}
use Rattle.std.proofs.lemmas.Option.{get_or_from_slice_get, slice_get_within}
use mathlib.Core.Logic.{inl, inr}
use Rattle.pool_member.proofs.Lists.{some_same}

pub all_of : {X : Type 0} (P : X → Type 0) (xs : List X) → ((k : ℕ) (x : X) → slice_get xs k ≡ Some x → P x)
    → (k : ℕ) (d : X) → k < length xs → P (slice_index_or xs k d)
all_of P [] at k d lt = absurd (omega (arith, lt))
all_of P (y ∷ ys) at zero d lt = at 0 y refl
all_of P (y ∷ ys) at (suc k) d lt = all_of P ys (λ j x e. at (suc j) x e) k d (omega (arith, lt))

pub at_all : {X : Type 0} (P : X → Type 0) (xs : List X) (k : ℕ) (x : X) → All P xs → slice_get xs k ≡ Some x → P x
at_all P xs k x all at = subst P (get_or_from_slice_get xs k x x at) (all k x (slice_get_within xs k x at))

pub of_map : {X Y : Type 0} (f : X → Y) (xs : List X) (k : ℕ) (y : Y) → slice_get (map f xs) k ≡ Some y
    → (x : X) × (slice_get xs k ≡ Some x) × (y ≡ f x)
of_map f [] k y at = absurd (cc at)
of_map f (x ∷ xs) zero y at = (x, refl, sym (some_same (f x) y at))
of_map f (x ∷ xs) (suc k) y at = of_map f xs k y at

pub map_map : {X Y V : Type 0} (f : X → Y) (g : Y → V) (h : X → V) (xs : List X) → ((x : X) → g (f x) ≡ h x)
    → map g (map f xs) ≡ map h xs
map_map f g h [] e = refl
map_map f g h (x ∷ xs) e = ap (λ v. v ∷ map g (map f xs)) (e x) ∙ ap (λ vs. h x ∷ vs) (map_map f g h xs e)

pub map_same : {X : Type 0} (f : X → X) (xs : List X) → ((x : X) → f x ≡ x) → map f xs ≡ xs
map_same f [] e = refl
map_same f (x ∷ xs) e = ap (λ v. v ∷ map f xs) (e x) ∙ ap (λ vs. x ∷ vs) (map_same f xs e)

-- what each item below a place has, and the one there, those below the next place have
pub up_to : {X : Type 0} (P : ℕ → X → Type 0) (xs : List X) (n : ℕ) (x : X) → slice_get xs n ≡ Some x → P n x
    → ((k : ℕ) (y : X) → k < n → slice_get xs k ≡ Some y → P k y) → (k : ℕ) (y : X) → k < n + 1
    → slice_get xs k ≡ Some y → P k y
up_to {X} P xs n x there is below k y lt at = go (cases_lt k n)
  where
    go : (k < n) ⊎ (n ≤ k) → P k y
    go (inl less) = below k y less at
    go (inr past) =
        let e : n ≡ k = omega (arith, past, lt) in
        subst (λ j. P j y) e
        (subst (P n) (some_same x y (sym there ∙ subst (λ j. slice_get xs j ≡ Some y) (sym e) at)) is)
