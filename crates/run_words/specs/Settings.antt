-- The options of the command line, as a table.
use Rattle.std.specs.Prelude.{ℕ, nat_le, ◌&&◌, Bool, if◌then◌else◌, List, [], ◌∷◌, find, codes, Option, Some, None}
use Rattle.std.specs.Str.{bytes_eq}
use Rattle.std.specs.Str.Parse.{digits_value}
use Rattle.option_words.specs.Numerals.{is_numeral}
use Rattle.run_words.specs.declared.settings.Setting.{Setting}
use Rattle.run_words.specs.declared.settings.Setting.TheVariants.{Order, Arenas, Chunks, Handles, Workers, Interval, Generate, Lanes, Commands}

-- a row: the word of an option with a number, the least and the greatest number for it, and the
-- number without it
pub record RowData : Type 0 where
  pub name : List ℕ
  pub least : ℕ
  pub greatest : ℕ
  pub default : ℕ

abbrev pub row : List ℕ → ℕ → ℕ → ℕ → RowData
row name least greatest default =
    record { name = name; least = least; greatest = greatest; default = default }

-- the table; without `--generate` nothing is generated, so its default is never used
abbrev pub row_of : Setting → RowData
row_of Order = row (codes "--order") 3 11 9
row_of Arenas = row (codes "--arenas") 1 8 2
row_of Chunks = row (codes "--chunks") 1 8 4
row_of Handles = row (codes "--handles") 1 4096 1024
row_of Workers = row (codes "--workers") 1 16 4
row_of Interval = row (codes "--interval") 1 65536 128
row_of Generate = row (codes "--generate") 0 18446744073709551615 0
row_of Lanes = row (codes "--lanes") 1 16 4
row_of Commands = row (codes "--commands") 8 65536 65536

-- all options with a number, in the order of the table
abbrev pub settings : List Setting
settings =
    Order
    ∷ Arenas
    ∷ Chunks
    ∷ Handles
    ∷ Workers
    ∷ Interval
    ∷ Generate
    ∷ Lanes
    ∷ Commands
    ∷ []

-- the option with a number that a word names
unfoldable pub named : List ℕ → Option Setting
named word = find (λ s. bytes_eq (row_of s).name word) settings

-- the number is in the range of the row
abbrev pub is_within : RowData → ℕ → Bool
is_within r n = nat_le r.least n && nat_le n r.greatest

-- the number that a text gives an option
unfoldable pub number_for : Setting → List ℕ → Option ℕ
number_for s text =
    if is_numeral text && is_within (row_of s) (digits_value 10 text)
    then Some (digits_value 10 text)
    else None

-- ---- The two options without a number.

-- the option with a level, and the one without a value
abbrev pub level_name : List ℕ
level_name = codes "--level"

abbrev pub history_name : List ℕ
history_name = codes "--history"
