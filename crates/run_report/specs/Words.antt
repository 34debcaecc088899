-- The words of a line, one after another.
use Rattle.std.specs.Prelude.{List, [], ◌∷◌, ◌++◌}
use Rattle.pool_law.specs.Text.{Text}

-- words, each after a space
abbrev pub after_spaces : List Text → Text
after_spaces [] = []
after_spaces (word ∷ rest) = 32 ∷ (word ++ after_spaces rest)
