-- The lowest bit of a word: an even one is free, and an odd one has it already.
use Rattle.std.proofs.Common.{◌≡◌, ℕ, ◌+◌, ◌*◌, ◌%◌, arith}
use Rattle.std.specs.Prelude.{bit_or, bit_and}
use Rattle.std.specs.Int.Bits.{or_add_and}
use Rattle.std.proofs.lemmas.Nat.{and_mask}

or_one : (n : ℕ) → bit_or n 1 + n % 2 ≡ n + 1
or_one n =
    let a : bit_or n 1 + bit_and n 1 ≡ n + 1 = or_add_and n 1 in let b : bit_and n 1 ≡ n % 2 = and_mask n 1 in
    omega (arith, a, b)

pub or_even : (word n : ℕ) → word ≡ 2 * n → bit_or word 1 ≡ word + 1
or_even word n e = let a = or_one word in let b : word % 2 ≡ 0 = omega (arith, e) in omega (arith, a, b)

pub or_odd : (word n : ℕ) → word ≡ 2 * n + 1 → bit_or word 1 ≡ word
or_odd word n e = let a = or_one word in let b : word % 2 ≡ 1 = omega (arith, e) in omega (arith, a, b)
