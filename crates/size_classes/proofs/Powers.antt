-- Bounds on the sizes of classes, and how many there are.
use Rattle.std.proofs.Common.{◌≡◌, ℕ, zero, suc, ◌+◌, ◌-◌, ◌*◌, ◌/◌, ◌%◌, ◌^◌, ◌<◌, ◌≤◌, [], ◌∷◌, length, length-append, get_or, refl, ap, ◌∙◌, arith, lit<}
use Rattle.std.proofs.Math.Nat.{pow-le-pow_right, mul-le-mul_left, mul-le-mul_right, one-le-pow}
use Rattle.std.proofs.lemmas.Bool.{cond_both, ltb-true, ltb-false}
use Rattle.std.proofs.lemmas.Nat.{pow-add}
use native.Mathlib.Decide.{dec_lt}
use Rattle.std.proofs.lemmas.List.{get_or_append_left, get_or_at}
use Rattle.std.specs.Prelude.{nat_lt}
use Rattle.size_classes.specs.Sizes.{size_at, first_sizes}

-- what a doubling adds to its base, in the sizes of all classes
pub product_fits : (step i : ℕ) → step ≤ 4 → i < 76 → step * 2 ^ (4 + (i - 4) / 4) ≤ 2 ^ 23
product_fits step i few h =
    let power = pow-le-pow_right {n = 2} (lit< tt) {i = 4 + (i - 4) / 4} {j = 21} (omega arith) in
    let first = mul-le-mul_right {m = step} {n = 4} (2 ^ (4 + (i - 4) / 4)) few in
    let second = mul-le-mul_left {m = 2 ^ (4 + (i - 4) / 4)} {n = 2 ^ 21} 4 power in
    omega (arith, first, second)

-- a base and what a doubling adds to it, in the sizes of all classes
pub size_fits : (step i : ℕ) → step ≤ 4 → i < 76 → 2 ^ (6 + (i - 4) / 4) + step * 2 ^ (4 + (i - 4) / 4) ≤ 2 ^ 24
size_fits step i few h =
    let base = pow-le-pow_right {n = 2} (lit< tt) {i = 6 + (i - 4) / 4} {j = 23} (omega arith) in
    omega (arith, base, product_fits step i few h)

-- how many sizes there are
pub length-first_sizes : (n : ℕ) → length (first_sizes n) ≡ n
length-first_sizes zero = refl
length-first_sizes (suc n) = omega (arith, length-append (first_sizes n) (size_at n ∷ []), length-first_sizes n)

-- each by its place
pub first_sizes-at : (n i d : ℕ) → i < n → get_or (first_sizes n) i d ≡ size_at i
first_sizes-at zero i d h = absurd (omega (arith, h))
first_sizes-at (suc n) i d h = one (first_sizes-at n i d) (dec_lt i n)
  where
    one : (i < n → get_or (first_sizes n) i d ≡ size_at i) → Dec (i < n) → get_or (first_sizes (suc n)) i d ≡ size_at i
    one before (yes less) =
        get_or_append_left (first_sizes n) (size_at n ∷ []) d i (omega (arith, less, length-first_sizes n))
        ∙ before less
    one before (no more) =
        let same : n ≡ i = omega (arith, more, h) in
        get_or_at (first_sizes n) (size_at n) [] d i (length-first_sizes n ∙ same) ∙ ap size_at same

-- a size is within its doubling
pub size_at-within : (i k : ℕ) → i < 4 * k + 4 → size_at i ≤ 64 * 2 ^ k
size_at-within i k h =
    let q : ℕ = (i - 4) / 4 in
    cond_both (nat_lt i 4) (16 * (i + 1)) (2 ^ (6 + q) + ((i - 4) % 4 + 1) * 2 ^ (4 + q)) (λ n. n ≤ 64 * 2 ^ k)
    (λ few. omega (arith, ltb-true i 4 few, one-le-pow k 2 (lit< tt)))
    (λ more.
    let from : 4 ≤ i = ltb-false i 4 more in
    let doubled : 2 ^ (q + 1) ≤ 2 ^ k =
    pow-le-pow_right {n = 2} (lit< tt) {i = q + 1} {j = k} (omega (arith, h, from)) in
    let steps = mul-le-mul_right {m = (i - 4) % 4 + 1} {n = 4} (2 ^ (4 + q)) (omega arith) in
    omega (arith, doubled, steps, pow-add 2 6 q, pow-add 2 4 q, pow-add 2 q 1))

-- so the sizes of all classes are far below what a number holds
pub size_at-fits : (i : ℕ) → i < 76 → size_at i ≤ 2 ^ 24
size_at-fits i h = omega (arith, size_at-within i 18 (omega (arith, h)))

-- and none is below the first
pub size_at-least : (i : ℕ) → 16 ≤ size_at i
size_at-least i =
    cond_both (nat_lt i 4) (16 * (i + 1)) (2 ^ (6 + (i - 4) / 4) + ((i - 4) % 4 + 1) * 2 ^ (4 + (i - 4) / 4))
    (λ n. 16 ≤ n)
    (λ _. omega arith)
    (λ _. omega (arith, pow-le-pow_right {n = 2} (lit< tt) {i = 4} {j = 6 + (i - 4) / 4} (omega arith)))
