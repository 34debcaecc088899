-- The series of page classes, which rises, and by which sizes are reckoned too.
use Rattle.std.proofs.Common.{◌≡◌, ◌⊎◌, ℕ, zero, suc, ◌+◌, ◌-◌, ◌*◌, ◌/◌, ◌%◌, ◌^◌, ◌<◌, ◌≤◌, true, false, [], ◌∷◌, length, length-append, get_or, refl, ap, ◌∙◌, subst, arith, eqb-true, lit<, lit≤, add-one}
use Rattle.std.specs.Prelude.{nat_lt, ◌==◌}
use Rattle.std.proofs.Math.Nat.{pow-le-pow_right, mul_comm}
use Rattle.std.proofs.lemmas.Nat.{pow-add, pow_pos, shr_split, div_below, le-div, mod_below}
use Rattle.std.proofs.lemmas.Bool.{ltb-true, le-ltb, cases_lt, agree_below_at}
use Rattle.std.proofs.lemmas.List.{get_or_append_left, get_or_at}
use native.Mathlib.Decide.{dec_lt}
use Rattle.size_classes.specs.Sizes.{size_at}
use Rattle.size_classes.specs.PageCounts.{page_count_at, first_page_counts, IsFirstAtLeast, IsLastAtMost}
use mathlib.Core.Logic.{inl, inr}

-- each is less than the next
pub count-rises : (k : ℕ) → k < 256 → page_count_at k < page_count_at (k + 1)
count-rises k few =
    ltb-true (page_count_at k) (page_count_at (k + 1))
    (agree_below_at (λ k. nat_lt (page_count_at k) (page_count_at (k + 1))) (λ _. true) 256 k refl few)

-- so they rise
pub count-mono : (j k : ℕ) → j ≤ k → k ≤ 256 → page_count_at j ≤ page_count_at k
count-mono j zero le few = let is : j ≡ 0 = omega (arith, le) in rw is (lit≤ tt)
count-mono j (suc k) le few = go (λ less. count-mono j k less (omega (arith, few))) (cases_lt j (suc k))
  where
    go : (j ≤ k → page_count_at j ≤ page_count_at k) → (j < suc k) ⊎ (suc k ≤ j) →
        page_count_at j ≤ page_count_at (suc k)
    go before (inl less) =
        let next : page_count_at k < page_count_at (suc k) =
        subst (λ (m : ℕ). page_count_at k < page_count_at m) (add-one k) (count-rises k (omega (arith, few))) in
        omega (arith, before (omega (arith, less)), next)
    go before (inr same) = let is : j ≡ suc k = omega (arith, le, same) in rw is (omega arith)

-- ---- in a doubling

-- a number from four on is in a doubling of at least four
pub doubling-least : (n t : ℕ) → 4 ≤ n → n < 2 * 2 ^ t → 2 ≤ t
doubling-least n t more less = go (cases_lt t 2)
  where
    go : (t < 2) ⊎ (2 ≤ t) → 2 ≤ t
    go (inl few) =
        absurd (omega (arith, pow-le-pow_right {n = 2} (lit< tt) {i = t} {j = 1} (omega (arith, few)), more, less))
    go (inr fine) = fine

-- the four of a doubling, by their quarters
pub count-quarters : (t m : ℕ) → 2 ≤ t → 4 ≤ m → m ≤ 7 → page_count_at (4 * t + m - 9) ≡ m * 2 ^ (t - 2)
count-quarters t m two four seven =
    let past : nat_lt (4 * t + m - 9) 3 ≡ false = le-ltb (4 * t + m - 9) 3 (omega (arith, two, four)) in
    let doublings : (4 * t + m - 9 - 3) / 4 ≡ t - 2 = omega (arith, two, four, seven) in
    let quarters : (4 * t + m - 9 - 3) % 4 + 4 ≡ m = omega (arith, two, four, seven) in
    rw (past, doublings, quarters) (mul_comm (2 ^ (t - 2)) m)

-- and the one after each
pub count-next : (t m : ℕ) → 2 ≤ t → 4 ≤ m → m ≤ 7 → page_count_at (4 * t + m - 9 + 1) ≡ (m + 1) * 2 ^ (t - 2)
count-next t m two four seven = go (cases_lt m 7)
  where
    go : (m < 7) ⊎ (7 ≤ m) → page_count_at (4 * t + m - 9 + 1) ≡ (m + 1) * 2 ^ (t - 2)
    go (inl less) =
        let same : 4 * t + m - 9 + 1 ≡ 4 * t + (m + 1) - 9 = omega (arith, two, four) in
        ap page_count_at same ∙ count-quarters t (m + 1) two (omega (arith, four)) (omega (arith, less))
    go (inr last) =
        let is : m ≡ 7 = omega (arith, last, seven) in
        let same : 4 * t + m - 9 + 1 ≡ 4 * (t + 1) + 4 - 9 = omega (arith, two, is) in
        let power : 2 ^ (t + 1 - 2) ≡ 2 * 2 ^ (t - 2) =
        ap (λ (k : ℕ). 2 ^ k) (omega (arith, two)) ∙ pow-add 2 1 (t - 2) in
        ap page_count_at same
        ∙ count-quarters (t + 1) 4 (omega (arith, two)) (lit≤ tt) (lit≤ tt)
        ∙ omega (arith, power, ap (λ (k : ℕ). (k + 1) * 2 ^ (t - 2)) is)

-- the quarters that n has of its doubling
pub record Quarters (n t m : ℕ) : Type 0 where
  pub least : 4 ≤ m
  pub most : m ≤ 7
  pub below : m * 2 ^ (t - 2) ≤ n
  pub above : n < (m + 1) * 2 ^ (t - 2)

pub quarters-of : (n t : ℕ) → 2 ≤ t → 2 ^ t ≤ n → n < 2 * 2 ^ t → Quarters n t (n / 2 ^ (t - 2))
quarters-of n t two from to =
    let u : ℕ = 2 ^ (t - 2) in
    let some : 0 < u = pow_pos (t - 2) in
    let whole : 2 ^ t ≡ 4 * u = ap (λ (k : ℕ). 2 ^ k) (omega (arith, two)) ∙ pow-add 2 2 (t - 2) in
    let split = shr_split n (t - 2) in
    let rest = mod_below n u some in
    record {
      least = le-div 4 n u some (omega (arith, whole, from));
      most = omega (arith, div_below n u 8 some (omega (arith, whole, to)));
      below = omega (arith, split);
      above = omega (arith, split, rest);
    }

-- so that is its place
pub last-quarters : (n t : ℕ) → 2 ≤ t → 2 ^ t ≤ n → n < 2 * 2 ^ t → IsLastAtMost n (4 * t + n / 2 ^ (t - 2) - 9)
last-quarters n t two from to =
    let q = quarters-of n t two from to in
    let m : ℕ = n / 2 ^ (t - 2) in
    record {
      holds = rw (count-quarters t m two q.least q.most) q.below;
      next = rw (count-next t m two q.least q.most) q.above;
    }

-- ---- sizes

-- a size is so many units of 16 bytes
pub size_at-count : (class : ℕ) → class < 80 → size_at class ≡ 16 * page_count_at class
size_at-count class few =
    eqb-true (size_at class) (16 * page_count_at class)
    (agree_below_at (λ class. size_at class == 16 * page_count_at class) (λ _. true) 80 class refl few)

-- so are those of the classes before the first that holds so many units
pub before-first : (units i j : ℕ) → i ≤ 256 → IsFirstAtLeast units i → j < i → page_count_at j < units
before-first units i j few first less =
    omega (arith, count-mono j (i - 1) (omega (arith, less)) (omega (arith, few)), first.before (omega (arith, less)))

-- and all before the last of them that so many pages hold
pub up_to_last : (n i j : ℕ) → i ≤ 256 → IsLastAtMost n i → j ≤ i → page_count_at j ≤ n
up_to_last n i j few last le = omega (arith, count-mono j i le few, last.holds)

-- those after it are more
pub past_last : (n i j : ℕ) → j ≤ 256 → IsLastAtMost n i → i < j → n < page_count_at j
past_last n i j few last less = omega (arith, count-mono (i + 1) j (omega (arith, less)) few, last.next)

-- ---- in a list

-- how many there are
pub length-counts : (n : ℕ) → length (first_page_counts n) ≡ n
length-counts zero = refl
length-counts (suc n) = omega (arith, length-append (first_page_counts n) (page_count_at n ∷ []), length-counts n)

-- each by its place
pub counts-at : (n i d : ℕ) → i < n → get_or (first_page_counts n) i d ≡ page_count_at i
counts-at zero i d h = absurd (omega (arith, h))
counts-at (suc n) i d h = one (counts-at n i d) (dec_lt i n)
  where
    one : (i < n → get_or (first_page_counts n) i d ≡ page_count_at i) → Dec (i < n) →
        get_or (first_page_counts (suc n)) i d ≡ page_count_at i
    one before (yes less) =
        get_or_append_left (first_page_counts n) (page_count_at n ∷ []) d i (omega (arith, less, length-counts n))
        ∙ before less
    one before (no more) =
        let same : n ≡ i = omega (arith, more, h) in
        get_or_at (first_page_counts n) (page_count_at n) [] d i (length-counts n ∙ same) ∙ ap page_count_at same
