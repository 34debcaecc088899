-- What searches find: in a list, among numbers that rise, and from a number on.
use Rattle.std.proofs.Common.{◌≡◌, ℕ, zero, suc, ◌+◌, ◌<◌, ◌≤◌, Bool, true, false, not, List, [], ◌∷◌, length, get_or, refl, ◌∙◌, sym, arith, Some, None, add-one, if◌then◌else◌, unwrap_or}
use Rattle.std.specs.Prelude.{nat_lt, nat_le, find, filter, count_by, position}
use Rattle.std.specs.List.{position_or_len}
use Rattle.std.specs.List.Sorted.{IsStrictlyIncreasing}
use Rattle.std.proofs.lemmas.Bool.{cond_both, cases_lt, ltb-false, le-leb, lt-leb, lt-ltb, le-ltb}
use Rattle.std.proofs.lemmas.List.Sums.{prefix_len_is, prefix_len-le-length, length-filter}
use Rattle.size_classes.specs.Sizes.{least_from}
use mathlib.Core.Logic.{inl, inr, ◌⊎◌}

-- ---- in a list

-- the place that a search finds, or the length
pub position-or_len : (p : ℕ → Bool) (xs : List ℕ) → unwrap_or (position p xs) (length xs) ≡ position_or_len p xs
position-or_len p xs =
    cond_both (nat_lt (position_or_len p xs) (length xs)) (Some (position_or_len p xs)) None
    (λ o. unwrap_or o (length xs) ≡ position_or_len p xs) (λ _. refl)
    (λ past. omega (arith, ltb-false (position_or_len p xs) (length xs) past, prefix_len-le-length (λ x. not (p x)) xs))

-- a search finds the first that passes
pub position-at : (p : ℕ → Bool) (xs : List ℕ) (k : ℕ) → k < length xs → p (get_or xs k 0) ≡ true →
    ((j : ℕ) → j < k → p (get_or xs j 0) ≡ false) → position p xs ≡ Some k
position-at p xs k there passes before =
    let stops : not (p (get_or xs k 0)) ≡ false = rw passes refl in
    let at : position_or_len p xs ≡ k =
    prefix_len_is (λ x. not (p x)) xs k 0 (omega (arith, there)) (λ j less. rw (before j less) refl) (λ _. stops) in
    rw (at, lt-ltb k (length xs) there) refl

-- and nothing where none passes
pub position-none : (p : ℕ → Bool) (xs : List ℕ) → ((j : ℕ) → j < length xs → p (get_or xs j 0) ≡ false) →
    position p xs ≡ None
position-none p xs none =
    let at : position_or_len p xs ≡ length xs =
    prefix_len_is (λ x. not (p x)) xs (length xs) 0 (omega arith) (λ j less. rw (none j less) refl)
    (λ h. absurd (omega (arith, h))) in
    rw (at, le-ltb (length xs) (length xs) (omega arith)) refl

-- ---- among numbers that rise

-- so do those after the first
rises-tail : (x : ℕ) (xs : List ℕ) → IsStrictlyIncreasing (x ∷ xs) → IsStrictlyIncreasing xs
rises-tail x xs rises k lt =
    let next = rises (suc k) (omega (arith, lt)) in
    rw add-one (rw add-one at next)

-- where one is above n, so are all after it
none-up_to : (n x : ℕ) (xs : List ℕ) → n < x → IsStrictlyIncreasing (x ∷ xs) → length (filter (λ c. nat_le c n) xs) ≡ 0
none-up_to n x [] above rises = refl
none-up_to n x (y ∷ ys) above rises =
    let higher : x < y = rises 0 (omega arith) in
    rw (lt-leb y n (omega (arith, above, higher)))
    (none-up_to n y ys (omega (arith, above, higher)) (rises-tail x (y ∷ ys) rises))

-- those of at most n stand before the first above n
pub count-up_to : (n : ℕ) (xs : List ℕ) → IsStrictlyIncreasing xs →
    count_by (λ c. nat_le c n) xs ≡ unwrap_or (position (λ c. nat_lt n c) xs) (length xs)
count-up_to n xs rises =
    sym (length-filter (λ c. nat_le c n) xs) ∙ go xs rises ∙ sym (position-or_len (λ c. nat_lt n c) xs)
  where
    go : (ys : List ℕ) → IsStrictlyIncreasing ys →
        length (filter (λ c. nat_le c n) ys) ≡ position_or_len (λ c. nat_lt n c) ys
    go [] rises = refl
    go (y ∷ ys) rises = by_first (go ys (rises-tail y ys rises)) (cases_lt n y)
      where
        by_first : length (filter (λ c. nat_le c n) ys) ≡ position_or_len (λ c. nat_lt n c) ys → (n < y) ⊎ (y ≤ n) →
            length (filter (λ c. nat_le c n) (y ∷ ys)) ≡ position_or_len (λ c. nat_lt n c) (y ∷ ys)
        by_first rest (inl above) = rw (lt-leb y n above, lt-ltb n y above) (none-up_to n y ys above rises)
        by_first rest (inr below) = rw (le-leb y n below, le-ltb n y below) (omega (arith, rest))

-- ---- from a number on

-- what is found is not below where the search begins
pub least_from-from : (n more : ℕ) (passes : ℕ → Bool) → n ≤ least_from n more passes
least_from-from n zero passes = omega arith
least_from-from n (suc more) passes =
    cond_both (passes n) n (least_from (n + 1) more passes) (λ k. n ≤ k) (λ _. omega arith)
    (λ _. omega (arith, least_from-from (n + 1) more passes))
