-- Texts of decimal digits, and the numbers that they are.
use Rattle.std.proofs.Common.{◌≡◌, ℕ, ◌<◌, ◌^◌, List, length, rules, true, false, arith, refl, Some, None}
use Rattle.std.specs.Prelude.{Result, Ok, Err, Option, nat_lt, if◌then◌else◌, ◌&&◌}
use Rattle.std.specs.List.{list_all}
use Rattle.std.specs.Char.{is_ascii_digit}
use Rattle.std.specs.Result.{OkIff, result_ok}
use Rattle.std.specs.Str.Parse.{ParsesUnsigned, digits_value}
use Rattle.std.proofs.lemmas.Bool.Decides.{nat_tests}
use Rattle.std.proofs.lemmas.Str.Parse.{IsNumeralModel, numerals_by_value, parse_digits}
use Rattle.option_words.specs.Numerals.{is_numeral, number_of}

-- what `parse` reads is the number of the digits
own : IsNumeralModel (λ ds. list_all is_ascii_digit ds ≡ true) (digits_value 10)
own = numerals_by_value _ (search rules)

-- a numeral has a digit, and nothing but digits
long_enough : (text : List ℕ) → is_numeral text ≡ true → 0 < length text
long_enough text good = grind (arith, nat_tests)

all_digits : (text : List ℕ) → is_numeral text ≡ true → list_all is_ascii_digit text ≡ true
all_digits text good = grind (arith, nat_tests)

at_least : (a b : ℕ) → (a < b → ⊥) → nat_lt a b ≡ false
at_least a b h = grind (arith, nat_tests)

read_one : {E : Type 0} (text : List ℕ) (r : Result ℕ E) → is_numeral text ≡ true
    → OkIff r ((0 < length text) × (digits_value 10 text < 2 ^ 64)) (digits_value 10 text)
    → result_ok r ≡ number_of text
read_one text (Ok n) good h =
    let fits : nat_lt (digits_value 10 text) (2 ^ 64) ≡ true = grind (arith, nat_tests) in
    rw (good, fits, h.1) refl
read_one text (Err e) good h =
    let long : 0 < length text = long_enough text good in
    let past : nat_lt (digits_value 10 text) (2 ^ 64) ≡ false = at_least _ _ (λ small. h (long, small)) in
    rw (good, past) refl

-- `parse` gives the number of a numeral
pub parsed : {E : Type 0} (text : List ℕ) (r : Result ℕ E) → ParsesUnsigned 64 10 text r → is_numeral text ≡ true
    → result_ok r ≡ number_of text
parsed text r h good = read_one text r good (parse_digits own 64 text r h (all_digits text good))
