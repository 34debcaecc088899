-- Lists that are gone through from the front.
use Rattle.std.proofs.Common.{◌≡◌, ℕ, zero, suc, ◌+◌, ◌<◌, ◌≤◌, List, [], ◌∷◌, ◌++◌, length, map, take, drop, get_or, refl, sym, ap, ◌∙◌, arith, Some}
use Rattle.std.specs.Prelude.{slice_get}
use Rattle.std.proofs.lemmas.List.{drop-drop, length-drop, map_more}
use Rattle.std.proofs.lemmas.Option.{get_or_from_slice_get, slice_get-get_or, slice_get_within}

module _ {X : Type 0} where
  -- the element of a place that is there
  pub there : (xs : List X) (k : ℕ) → k < length xs → (x : X) × (slice_get xs k ≡ Some x)
  there [] k lt = absurd (omega (arith, lt))
  there (x ∷ xs) zero lt = (x, refl)
  there (x ∷ xs) (suc k) lt = there xs k (omega (arith, lt))

  -- the first of those that are left
  pub first_left : (xs : List X) (n : ℕ) → slice_get (drop n xs) 0 ≡ slice_get xs n
  first_left [] zero = refl
  first_left [] (suc n) = refl
  first_left (x ∷ xs) zero = refl
  first_left (x ∷ xs) (suc n) = first_left xs n

  -- which is taken off
  pub taken_off : (xs left : List X) (n : ℕ) (x : X) → left ≡ drop n xs → n < length xs → x ≡ get_or left 0 x
      → slice_get xs n ≡ Some x
  taken_off xs left n x is lt first =
      let some : 0 < length left = (let a = ap (λ (l : List X). length l) is in let b = length-drop n xs in
      omega (arith, a, b, lt)) in
      sym (first_left xs n)
      ∙ ap (λ (l : List X). slice_get l 0) (sym is)
      ∙ slice_get-get_or left 0 x some
      ∙ ap (λ (y : X). Some y) (sym first)

  -- the same are left of two lists
  pub same_place : (xs ys : List X) (n : ℕ) → drop n xs ≡ drop n ys → slice_get xs n ≡ slice_get ys n
  same_place xs ys n e =
      sym (first_left xs n) ∙ ap (λ (l : List X). slice_get l 0) e ∙ first_left ys n

  -- what is told of the first ones, and of one more
  pub told_more : {Y : Type 0} (f : X → Y) (xs : List X) (n : ℕ) (x : X) → slice_get xs n ≡ Some x
      → map f (take (n + 1) xs) ≡ map f (take n xs) ++ f x ∷ []
  told_more f xs n x e =
      map_more f xs n x (slice_get_within xs n x e)
      ∙ ap (λ (y : X). map f (take n xs) ++ f y ∷ []) (get_or_from_slice_get xs n x x e)

  -- nothing is left behind the last one
  pub none_left : (xs : List X) (n : ℕ) (left rest : List X) → length xs ≡ n + 1 → left ≡ drop n xs → rest ≡ drop 1 left
      → rest ≡ []
  none_left xs n left rest many is then =
      then ∙ ap (λ (l : List X). drop 1 l) is ∙ drop-drop 1 n xs ∙ drop_all xs (n + 1) (omega (arith, many))
    where
      drop_all : (ys : List X) (k : ℕ) → length ys ≤ k → drop k ys ≡ []
      drop_all [] zero le = refl
      drop_all [] (suc k) le = refl
      drop_all (y ∷ ys) zero le = absurd (omega (arith, le))
      drop_all (y ∷ ys) (suc k) le = drop_all ys k (omega (arith, le))
