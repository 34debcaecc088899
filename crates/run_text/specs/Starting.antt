-- How lines begin and end. No public clause cites this module.
use Rattle.std.specs.Prelude.{◌≡◌, Bool, true, false, nat_eq, nat_lt, List, [], ◌∷◌, ◌++◌}
use Rattle.std.specs.List.{list_all, starts_with}
use Rattle.pool_law.specs.Text.{Text}

-- these lines, each with its end
abbrev pub unlines : List Text → Text
unlines [] = []
unlines (text ∷ texts) = text ++ 10 ∷ unlines texts

-- each byte of a text is a space or above: no line ends in it
abbrev pub is_shown : Text → Bool
is_shown text = list_all (λ b. nat_lt 31 b) text

-- and so in each of these
abbrev pub AreShown : List Text → Type 0
AreShown [] = Unit {0}
AreShown (text ∷ texts) = (is_shown text ≡ true) × AreShown texts

-- a line begins so
abbrev pub Begins : Text → Text → Type 0
Begins first text = starts_with nat_eq text first ≡ true

-- of these lines there is none, or the first does not
abbrev pub BeginsNot : Text → List Text → Type 0
BeginsNot first [] = Unit {0}
BeginsNot first (text ∷ more) = starts_with nat_eq text first ≡ false
