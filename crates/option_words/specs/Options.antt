-- Options as words: what the first words give, and all of them.
use Rattle.std.specs.Prelude.{ℕ, nat_lt, ◌==◌, ◌||◌, Bool, if◌then◌else◌, List, [], ◌∷◌, length, Option, Some, None, is_some, option_map, option_and_then}
use Rattle.std.specs.List.{position_or_len, before_first, after_first}
use Rattle.std.specs.Option.{option_or}

-- the sign between a name and its value in one word, a `=`
abbrev pub is_sign : ℕ → Bool
is_sign c = c == 61

-- the word has a sign
abbrev pub has_sign : List ℕ → Bool
has_sign word = nat_lt (position_or_len is_sign word) (length word)

-- these, if there is something at each place
abbrev pub with_given : {G : Type 0} → Option G → Option (List G) → Option (List G)
with_given given others = option_and_then (λ g. option_map (λ gs. g ∷ gs) others) given

-- what is given, and the words behind it
abbrev pub before : {G : Type 0} → List (List ℕ) → Option G → Option (G × List (List ℕ))
before others given = option_map (λ g. (g, others)) given

-- `flag` tells what a word gives that is an option without a value, and `valued` what a name and a
-- value give
module _ {G : Type 0} (flag : List ℕ → Option G) (valued : List ℕ → List ℕ → Option G) where
  -- the word is a whole option
  abbrev pub is_whole : List ℕ → Bool
  is_whole word = is_some (flag word) || has_sign word

  -- what a word gives that is a whole option: its name stands before its first sign, its value behind
  abbrev pub given_alone : List ℕ → Option G
  given_alone word =
      if is_some (flag word)
      then flag word
      else valued (before_first is_sign word) (after_first is_sign word)

  -- what the words give, in their order: an option is one word, or a name and a value
  abbrev pub givens_in : List (List ℕ) → Option (List G)
  givens_in [] = Some []
  givens_in (word ∷ []) = if is_whole word then with_given (given_alone word) (Some []) else None
  givens_in (word ∷ next ∷ words) =
      if is_whole word
      then with_given (given_alone word) (givens_in (next ∷ words))
      else with_given (valued word next) (givens_in words)

  -- what the first words give, and the words behind them
  abbrev pub first_given : List (List ℕ) → Option (G × List (List ℕ))
  first_given [] = None
  first_given (word ∷ []) = if is_whole word then before [] (given_alone word) else None
  first_given (word ∷ next ∷ words) =
      if is_whole word
      then before (next ∷ words) (given_alone word)
      else before words (valued word next)
