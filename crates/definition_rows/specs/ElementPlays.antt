-- Elements that are handed out, one after another.
use Rattle.std.specs.Prelude.{ℕ, zero, suc, true, List, [], ◌∷◌, replicate, Option, Some, None}
use Rattle.size_classes.specs.Elements.{Elements, next_element, with_out}

-- the elements after one is handed out, if there is one
abbrev pub after_take : Elements → Option ℕ → Elements
after_take e None = e
after_take e (Some k) = with_out e k

-- what is handed out, so many times
abbrev pub handed_out : ℕ → Elements → List (Option ℕ)
handed_out zero e = []
handed_out (suc n) e = next_element e ∷ handed_out n (after_take e (next_element e))

-- so many elements that are all out
abbrev pub all_out : ℕ → Elements
all_out count = record { out = replicate count true; remembered = None }
