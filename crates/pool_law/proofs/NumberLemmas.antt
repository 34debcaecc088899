-- Consecutive numbers: each of them is listed once, and different ones are no more than they.
use Rattle.std.proofs.Common.{◌≡◌, ℕ, zero, suc, ◌+◌, ◌<◌, ◌≤◌, ⊎_elim, List, [], ◌∷◌, ◌++◌, length, refl, sym, ap, arith, Bool, true, false, nat_eq, Some, ◌∙◌, length-append}
use Rattle.std.specs.Prelude.{◌==◌, ◌||◌, not, if◌then◌else◌, map, slice_get}
use Rattle.std.specs.List.{IsDistinct, list_any}
use Rattle.std.specs.Ordering.{nat_cmp, is_eq}
use Rattle.std.proofs.lemmas.Bool.{cases_lt, cases_Bool, eqb-false}
use Rattle.std.proofs.lemmas.Bool.Decides.{nat_tests}
use Rattle.std.proofs.lemmas.Cmp.{nat_eq_equiv}
use Rattle.std.proofs.lemmas.List.{map-append}
use Rattle.std.proofs.lemmas.List.Folds.{list_any-append}
use Rattle.std.proofs.lemmas.Map.Made.{length-le_from_is_member}
use Rattle.size_classes.specs.Sizes.{below}
use Rattle.pool_law.specs.ChunkLists.{has, without}
use Rattle.pool_law.proofs.ListLemmas.{get-front, get-behind}

-- there are so many numbers below another
pub length-below : (n : ℕ) → length (below n) ≡ n
length-below zero = refl
length-below (suc n) = omega (arith, length-append (below n) (n ∷ []), length-below n)

-- each stands at its own place
pub get-below : (n k : ℕ) → k < n → slice_get (below n) k ≡ Some k
get-below zero k low = absurd (omega (arith, low))
get-below (suc n) k low =
    ⊎_elim
    (λ less. get-front (below n) (n ∷ []) k k (get-below n k less))
    (λ high.
    let last : k ≡ n = omega (arith, low, high) in
    ap (slice_get (below n ++ n ∷ [])) (last ∙ sym (length-below n))
    ∙ get-behind (below n) n []
    ∙ ap Some (sym last))
    (cases_lt k n)

-- no numbers differ
pub none_distinct : IsDistinct nat_eq []
unfolding IsDistinct
none_distinct = tt

-- n numbers from the first on
abbrev pub numbers : ℕ → ℕ → List ℕ
numbers first n = map (λ k. first + k) (below n)

pub numbers-more : (first n : ℕ) → numbers first (suc n) ≡ numbers first n ++ (first + n) ∷ []
numbers-more first n = map-append (λ k. first + k) (below n) (n ∷ [])

pub length-numbers : (first n : ℕ) → length (numbers first n) ≡ n
length-numbers first zero = refl
length-numbers first (suc n) =
    let shorter : length (numbers first n) ≡ n = length-numbers first n in
    ap length (numbers-more first n) ∙ omega (arith, shorter, length-append (numbers first n) ((first + n) ∷ []))

any-more : (p : ℕ → Bool) (first n : ℕ) →
    list_any p (numbers first (suc n)) ≡ (list_any p (numbers first n) || (p (first + n) || false))
any-more p first n =
    ap (list_any p) (numbers-more first n) ∙ list_any-append p (numbers first n) ((first + n) ∷ [])

-- each number between is listed
pub listed : (first n p : ℕ) → first ≤ p → p < first + n → list_any (nat_eq p) (numbers first n) ≡ true
listed first zero p least most = absurd (omega arith)
listed first (suc n) p least most =
    any-more (nat_eq p) first n ∙ ⊎_elim
    (λ same. ap (λ b. list_any (nat_eq p) (numbers first n) || (b || false)) same
    ∙ or-true (list_any (nat_eq p) (numbers first n)))
    (λ other. ap (λ b. b || (nat_eq p (first + n) || false))
    (listed first n p least (omega (arith, eqb-false p (first + n) other))))
    (cases_Bool (nat_eq p (first + n)))
  where
    or-true : (b : Bool) → (b || true) ≡ true
    or-true true = refl
    or-true false = refl

-- a later number is not listed
pub not-listed : (first n m : ℕ) → n ≤ m → list_any (λ q. q == first + m) (numbers first n) ≡ false
not-listed first zero m le = refl
not-listed first (suc n) m le =
    any-more (λ q. q == first + m) first n
    ∙ ap (λ b. b || ((first + n == first + m) || false)) (not-listed first n m (omega arith))
    ∙ ap (λ b. b || false) (apart (first + n) (first + m) (omega arith))
  where
    apart : (a b : ℕ) → a < b → (a == b) ≡ false
    apart a b lt = grind (arith, nat_tests)

-- numbers are equal where an order finds them so
pub is_eq-nat : (a b : ℕ) → is_eq (nat_cmp a b) ≡ (a == b)
is_eq-nat a b = grind (arith, nat_tests)

-- the number is listed, whichever way the test is asked
pub listed-turned : (p : ℕ) (xs : List ℕ) → list_any (nat_eq p) xs ≡ list_any (λ q. q == p) xs
listed-turned p [] = refl
listed-turned p (x ∷ xs) =
    ap (λ b. b || list_any (nat_eq p) xs) (nat_eq_equiv.symm p x) ∙ ap (λ b. nat_eq x p || b) (listed-turned p xs)

-- different ones of n numbers are at most n
pub different-within : (first n : ℕ) (xs : List ℕ) → IsDistinct nat_eq xs →
    ((q : ℕ) → list_any (nat_eq q) xs ≡ true → (first ≤ q) × (q < first + n)) → length xs ≤ n
different-within first n xs different within =
    let most : length xs ≤ length (numbers first n) =
    length-le_from_is_member nat_eq_equiv xs (numbers first n) different
    (λ q there. listed first n q (within q there).0 (within q there).1) in
    omega (arith, most, length-numbers first n)

-- a number that has left the list is not in it
pub has-without : (c : ℕ) (xs : List ℕ) → has c (without c xs) ≡ false
has-without c [] = refl
has-without c (x ∷ xs) = go (x == c) refl (has-without c xs)
  where
    go : (b : Bool) → (x == c) ≡ b → has c (without c xs) ≡ false → has c (without c (x ∷ xs)) ≡ false
    go true is rest = ap (λ b. has c (if not b then x ∷ without c xs else without c xs)) is ∙ rest
    go false is rest =
        ap (λ b. has c (if not b then x ∷ without c xs else without c xs)) is
        ∙ ap (λ b. b || has c (without c xs)) is
        ∙ rest
