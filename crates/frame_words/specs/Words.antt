-- The words of the command line, and what they ask of the frame cutter.
use Rattle.std.specs.Prelude.{ℕ, ◌≤◌, nat_le, ◌&&◌, Bool, if◌then◌else◌, List, [], ◌∷◌, codes, Option, Some, None, IfSome, is_some, option_map, option_and_then, unwrap_or}
use Rattle.std.specs.Str.{bytes_eq}
use Rattle.std.specs.Str.Parse.{digits_value}
use Rattle.option_words.specs.Numerals.{is_numeral}
use Rattle.option_words.specs.Options.{givens_in as givens_by}
use Rattle.frame_words.specs.declared.settings.Setting.{Setting}
use Rattle.frame_words.specs.declared.settings.Setting.TheVariants.{Workers, Block}
use Rattle.frame_words.specs.declared.settings.Row.{Row}
use Rattle.frame_words.specs.declared.asked.Given.{Given}
use Rattle.frame_words.specs.declared.asked.Asked.{Asked}
use Rattle.frame_words.specs.declared.words.CutOptions.{CutOptions}

-- ---- The table.

-- the least and the greatest number of an option, and the number without it
abbrev pub row_of : Setting → Row
row_of Workers = record { least = 1; greatest = 15; default = 4 }
row_of Block = record { least = 1024; greatest = 65536; default = 8192 }

-- the option that a word names
unfoldable pub named : List ℕ → Option Setting
named word =
    if bytes_eq word (codes "--workers")
    then Some Workers
    else (if bytes_eq word (codes "--block") then Some Block else None)

-- the number is in the range of the row
abbrev pub is_within : Row → ℕ → Bool
is_within r n = nat_le r.least n && nat_le n r.greatest

-- the number that a text gives an option
unfoldable pub number_for : Setting → List ℕ → Option ℕ
number_for s text =
    if is_numeral text && is_within (row_of s) (digits_value 10 text)
    then Some (digits_value 10 text)
    else None

-- ---- What the words give.

-- no option stands without a value
abbrev pub no_flag : List ℕ → Option Given
no_flag word = None

-- the option of this name with the number of this text
unfoldable pub given_by : List ℕ → List ℕ → Option Given
given_by name text = option_and_then
    (λ s. option_map (λ n. record { setting = s; number = n }) (number_for s text)) (named name)

-- what the words give, in their order
abbrev pub givens_in : List (List ℕ) → Option (List Given)
givens_in = givens_by no_flag given_by

-- ---- What is asked for by these, each option at most once.

-- nothing is asked for
abbrev pub nothing : Asked
nothing = record { workers = None; block = None }

-- this, where it wasn't asked for before
abbrev pub unless_before : Bool → Asked → Option Asked
unless_before before asked = if before then None else Some asked

-- with one more number
abbrev pub with_number : Asked → Setting → ℕ → Option Asked
with_number a Workers n = unless_before (is_some a.workers) (record a { workers = Some n })
with_number a Block n = unless_before (is_some a.block) (record a { block = Some n })

-- with one more option
unfoldable pub asked_with : Asked → Given → Option Asked
asked_with a g = with_number a g.setting g.number

-- with all these
abbrev pub asked_from : Asked → List Given → Option Asked
asked_from a [] = Some a
asked_from a (g ∷ gs) = option_and_then (λ b. asked_from b gs) (asked_with a g)

-- what the words ask for
abbrev pub asked_by : List (List ℕ) → Option Asked
asked_by words = option_and_then (asked_from nothing) (givens_in words)

-- the number that is asked for, or the option's default
abbrev pub or_default : Setting → Option ℕ → ℕ
or_default s asked = unwrap_or asked (row_of s).default

-- what is asked of the cutter
abbrev pub options_for : Asked → CutOptions
options_for a = record { workers = or_default Workers a.workers; block = or_default Block a.block }

-- the options that the words are, where they have a form
unfoldable pub options_of : List (List ℕ) → Option CutOptions
options_of words = option_map options_for (asked_by words)

-- ---- Numbers in their range.

-- the number is in the option's range
pub record IsInRange (s : Setting) (n : ℕ) : Type 0 where
  pub least : (row_of s).least ≤ n
  pub greatest : n ≤ (row_of s).greatest

-- a number that is given is in its range
abbrev pub IsWithin : Given → Type 0
IsWithin g = IsInRange g.setting g.number

-- all numbers that are asked for are in their ranges
pub record AreWithin (a : Asked) : Type 0 where
  pub workers : IfSome a.workers (IsInRange Workers)
  pub block : IfSome a.block (IsInRange Block)

-- and so are the options that they come to
pub record AreOptions (o : CutOptions) : Type 0 where
  pub workers : IsInRange Workers o.workers
  pub block : IsInRange Block o.block
