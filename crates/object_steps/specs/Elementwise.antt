-- What becomes of a run when one of its elements moves.
use Rattle.std.specs.Prelude.{ℕ, Bool, true, false}
use Rattle.size_classes.specs.Pages.{Run, Free, Used}
use Rattle.size_classes.specs.Elements.{with_out, with_back}
use Rattle.pool_law.specs.Chunks.{Use, Whole, Sub}

-- whether a run is free
abbrev pub is_free : Run Use → Bool
is_free (Free n) = true
is_free (Used n what) = false

-- a run once an element is handed out, if it is a subpage
abbrev pub with_element_out : ℕ → Run Use → Run Use
with_element_out k (Free n) = Free n
with_element_out k (Used n Whole) = Used n Whole
with_element_out k (Used n (Sub class e)) = Used n (Sub class (with_out e k))

-- a run once an element is given back, if it is a subpage
abbrev pub with_element_back : ℕ → Run Use → Run Use
with_element_back k (Free n) = Free n
with_element_back k (Used n Whole) = Used n Whole
with_element_back k (Used n (Sub class e)) = Used n (Sub class (with_back e k))
