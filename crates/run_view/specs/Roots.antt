-- The roots that words name.
use Rattle.std.specs.Prelude.{◌≡◌, ℕ, ◌^◌, ◌==◌, nat_lt, Bool, if◌then◌else◌, List, length, codes, Option, Some, None, Result, Ok, Err, Vec}
use Rattle.std.specs.declared.alloc.Global.{Global}
use Rattle.std.specs.List.{position_or_len, before_first, after_first}
use Rattle.std.specs.Str.{bytes_eq}
use Rattle.option_words.specs.Numerals.{number_of}
use Rattle.option_words.specs.Options.{givens_in}
use Rattle.pool_law.specs.Text.{Text}
use Rattle.trace_text.specs.Items.{◌>>=◌, only_if}
use Rattle.run_picture.specs.declared.roots.RootName.{RootName}
use Rattle.run_view.specs.declared.roots.WordsNo.{WordsNo}
use Rattle.run_view.specs.declared.roots.WordsNo.TheVariants.{Form, Memory}

-- the number of a place or a generation: 1 to 20 decimal digits, of at most 32 bits
unfoldable pub root_number : Text → Option ℕ
root_number text = number_of text >>= only_if (λ n. nat_lt n (2 ^ 32))

-- a point
abbrev pub is_point : ℕ → Bool
is_point c = c == 46

-- the numbers before the first point of a word and behind it
abbrev pub root_at : Text → Option RootName
root_at word = do
  place ← root_number (before_first is_point word)
  generation ← root_number (after_first is_point word)
  Some (record { place = place; generation = generation })

-- the root of a word, `P.G`
unfoldable pub root_named : Text → Option RootName
root_named word =
    if nat_lt (position_or_len is_point word) (length word) then root_at word else None

-- no word is an option by itself
abbrev pub no_flag : Text → Option RootName
no_flag word = None

-- a name and a value name a root
abbrev pub root_given : Text → Text → Option RootName
root_given name text = if bytes_eq name (codes "--root") then root_named text else None

-- the roots that words name, in their order; none where they have no form
abbrev pub roots_in : List Text → Option (List RootName)
roots_in words = givens_in no_flag root_given words

-- these are the roots that words name, or they have no form, or there was no memory
abbrev pub IsNamed : Result (Vec RootName Global) WordsNo → Option (List RootName) → Type 0
IsNamed (Ok roots) named = named ≡ Some roots.items
IsNamed (Err Form) named = named ≡ None
IsNamed (Err Memory) named = Unit {0}
