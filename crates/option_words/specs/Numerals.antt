-- Numbers as words.
use Rattle.std.specs.Prelude.{ℕ, nat_le, nat_lt, ◌&&◌, ◌^◌, Bool, if◌then◌else◌, List, length, Option, Some, None}
use Rattle.std.specs.Char.{is_ascii_digit}
use Rattle.std.specs.List.{list_all}
use Rattle.std.specs.Str.Parse.{digits_value}

-- 1 to 20 decimal digits
abbrev pub is_numeral : List ℕ → Bool
is_numeral text =
    nat_le 1 (length text) && (nat_le (length text) 20 && list_all is_ascii_digit text)

-- their number, where it has 64 bits
abbrev pub number_of : List ℕ → Option ℕ
number_of text =
    if is_numeral text && nat_lt (digits_value 10 text) (2 ^ 64)
    then Some (digits_value 10 text)
    else None
