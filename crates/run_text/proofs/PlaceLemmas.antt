-- What stands at a place of the lines of a text.
use Rattle.std.proofs.Common.{◌≡◌, ℕ, ◌+◌, ◌-◌, ◌<◌, ◌≤◌, List, [], ◌∷◌, ◌++◌, length, get_or, map, take, Some, sym, ap, ◌∙◌, arith, length-append}
use Rattle.std.specs.Prelude.{slice_get}
use Rattle.std.proofs.lemmas.List.{get_or-append-add, get_or-map, get_or_append_left, length-map, take_more}
use Rattle.std.proofs.lemmas.Option.{slice_get-get_or}
use Rattle.pool_law.specs.Text.{Text}

-- behind those in front stand these
pub text_behind : (front middle back : List Text) (k : ℕ) → k < length middle
    → slice_get (front ++ (middle ++ back)) (length front + k) ≡ Some (get_or middle k [])
text_behind front middle back k low =
    let behind = length-append middle back in
    let whole = length-append front (middle ++ back) in
    slice_get-get_or (front ++ (middle ++ back)) (length front + k) []
    (omega (arith, low, behind, whole))
    ∙ ap Some (get_or-append-add front (middle ++ back) k [] ∙ get_or_append_left middle back [] k low)

-- the line of this number is that of one of these
module _ {X : Type 0} (shown : X → Text) (texts front back : List Text) (xs : List X) (from to n : ℕ)
    (is : texts ≡ front ++ (map shown xs ++ back)) (long : length front ≡ from)
    (ends : from + length xs ≡ to)
    (first : from ≤ n) (last : n < to) (d : X) where
  pub inside : n - from < length xs
  inside = omega (arith, ends, first, last)

  pub shown_here : slice_get texts n ≡ Some (shown (get_or xs (n - from) d))
  shown_here =
      let place : n ≡ length front + (n - from) = omega (arith, long, first) in
      let low : n - from < length (map shown xs) = omega (arith, inside, length-map xs shown) in
      ap (λ (t : List Text). slice_get t n) is
      ∙ ap (λ m. slice_get (front ++ (map shown xs ++ back)) m) place
      ∙ text_behind front (map shown xs) back (n - from) low
      ∙ ap Some (get_or-map shown xs (n - from) d [] inside)

  -- one more of them
  pub one_more_read : (old new : List X) (x : X) → new ≡ old ++ x ∷ [] → old ≡ take (n - from) xs
      → x ≡ get_or xs (n - from) d → new ≡ take (n + 1 - from) xs
  one_more_read old new x pushed were read =
      let next : (n - from) + 1 ≡ n + 1 - from = omega (arith, first) in
      pushed
      ∙ (λ i. were i ++ read i ∷ [])
      ∙ sym (take_more xs (n - from) d inside)
      ∙ ap (λ m. take m xs) next
