-- The form of the words: how options are written, and what they then are.
use Rattle.std.specs.Prelude.{⊤, ◌≡◌, ℕ, ◌≤◌, Bool, true, if◌then◌else◌, List, [], ◌∷◌, ◌++◌, map, codes, All, Some}
use Rattle.std.specs.List.{flat_map}
use Rattle.std.specs.Str.Parse.{digits_value}
use Rattle.option_words.specs.Numerals.{is_numeral}
use Rattle.pool_law.specs.declared.run.Level.{Level}
use Rattle.trace_text.specs.Options.{level_word}
use Rattle.run_words.specs.declared.settings.Setting.{Setting}
use Rattle.run_words.specs.declared.asked.Given.{Given}
use Rattle.run_words.specs.declared.asked.Given.TheVariants as givens
use Rattle.run_words.specs.declared.words.RunOptions.{RunOptions}
use Rattle.run_words.specs.Settings.{history_name, level_name, row_of}
use Rattle.run_words.specs.Words.{options_given}

-- an option as it is written: a number by its text, or a level, each with whether name and value
-- are one word; or the option without a value
pub data Written : Type 0 where
  OfNumber : Setting → List ℕ → Bool → Written
  OfLevel : Level → Bool → Written
  OfHistory : Written

-- a name and a value: `name=value`, or `name` and `value`
abbrev pub name_and_value : List ℕ → List ℕ → Bool → List (List ℕ)
name_and_value name value in_one =
    if in_one then (name ++ codes "=" ++ value) ∷ [] else name ∷ value ∷ []

-- the words of an option
abbrev pub words_of : Written → List (List ℕ)
words_of (OfNumber s value in_one) = name_and_value (row_of s).name value in_one
words_of (OfLevel l in_one) = name_and_value level_name (level_word l) in_one
words_of OfHistory = history_name ∷ []

-- the text is 1 to 20 decimal digits, and its number in the option's range
pub record IsNumberFor (s : Setting) (text : List ℕ) : Type 0 where
  pub numeral : is_numeral text ≡ true
  pub least : (row_of s).least ≤ digits_value 10 text
  pub greatest : digits_value 10 text ≤ (row_of s).greatest

-- an option with a number is written with one for it
abbrev pub IsValued : Written → Type 0
IsValued (OfNumber s value in_one) = IsNumberFor s value
IsValued _ = ⊤

-- the option with its value
abbrev pub given_of : Written → Given
given_of (OfNumber s value in_one) = givens.Number s (digits_value 10 value)
given_of (OfLevel l in_one) = givens.Level l
given_of OfHistory = givens.History

-- the words are options that are written so, in any order, and these are what they give
pub record HasForm (words : List (List ℕ)) (options : RunOptions) : Type 0 where
  pub written : List Written
  pub spelling : words ≡ flat_map words_of written
  pub values : All IsValued written
  pub asked : options_given (map given_of written) ≡ Some options
