-- What stands in a list that grows at its end or loses its first item.
use Rattle.std.proofs.Common.{◌≡◌, ◌⊎◌, ℕ, zero, suc, ◌<◌, List, [], ◌∷◌, ◌++◌, length, Option, Some, refl, sym, ap, subst, ◌∙◌, append_assoc, append-nil, arith}
use Rattle.std.specs.Prelude.{All, remove, slice_get, slice_index_or, unwrap_or}
use mathlib.Core.Logic.{inl, inr}

pub some_same : {X : Type 0} (x y : X) → ◌≡◌ {A = Option X} (Some x) (Some y) → x ≡ y
some_same x y e = ap (λ o. unwrap_or o x) e

pub slice_get_pushed : {X : Type 0} (xs : List X) (y x : X) (k : ℕ) → slice_get (xs ++ y ∷ []) k ≡ Some x
    → (slice_get xs k ≡ Some x) ⊎ ((k ≡ length xs) × (y ≡ x))
slice_get_pushed [] y x zero e = inr (refl, some_same y x e)
slice_get_pushed [] y x (suc k) e = absurd (cc e)
slice_get_pushed (z ∷ zs) y x zero e = inl e
slice_get_pushed (z ∷ zs) y x (suc k) e = further (slice_get_pushed zs y x k e)
  where
    further : (slice_get zs k ≡ Some x) ⊎ ((k ≡ length zs) × (y ≡ x))
        → (slice_get zs k ≡ Some x) ⊎ ((suc k ≡ length (z ∷ zs)) × (y ≡ x))
    further (inl e) = inl e
    further (inr e) = inr ((let a = e.0 in omega (arith, a)), e.1)

-- the first item is such, and so are those behind it, and one more
pub all_first : {X : Type 0} (P : X → Type 0) (xs : List X) (x : X) → 0 < length xs → x ≡ slice_index_or xs 0 x
    → All P xs → P x
all_first P xs x lt e all = subst P (sym e) (all 0 x lt)

pub all_rest : {X : Type 0} (P : X → Type 0) (xs : List X) → All P xs → All P (remove xs 0)
all_rest P [] all = λ k d lt. absurd (omega arith)
all_rest P (y ∷ ys) all = λ k d lt. all (suc k) d (omega arith)

pub all_pushed : {X : Type 0} (P : X → Type 0) (xs : List X) (y : X) → All P xs → P y
    → (k : ℕ) (d : X) → k < length (xs ++ y ∷ []) → P (slice_index_or (xs ++ y ∷ []) k d)
all_pushed P [] y all is zero d lt = is
all_pushed P [] y all is (suc k) d lt = absurd (omega (arith, lt))
all_pushed P (x ∷ xs) y all is zero d lt = all 0 d (omega arith)
all_pushed P (x ∷ xs) y all is (suc k) d lt =
    all_pushed P xs y (λ j e le. all (suc j) e (omega (arith, le))) is k d (omega (arith, lt))

-- the first item of a list goes to the end of another
pub passes_on : {X : Type 0} (xs ys : List X) (y : X) → 0 < length ys → y ≡ slice_index_or ys 0 y
    → (xs ++ y ∷ []) ++ remove ys 0 ≡ xs ++ ys
passes_on xs [] y lt e = absurd (omega (arith, lt))
passes_on xs (z ∷ zs) y lt e = append_assoc xs (y ∷ []) zs ∙ ap (λ x. xs ++ x ∷ zs) e

-- where nothing is left of a list, all of it is at the end of the other
pub all_passed : {X : Type 0} (xs ys zs : List X) → xs ++ ys ≡ zs → length ys ≡ 0 → xs ≡ zs
all_passed xs [] zs e none = sym (append-nil xs) ∙ e
all_passed xs (y ∷ ys) zs e none = absurd (omega (arith, none))
