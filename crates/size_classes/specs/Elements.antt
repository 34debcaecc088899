-- The elements of a subpage: which are out, and which is handed out next.
use Rattle.std.specs.Prelude.{ℕ, Bool, true, false, not, List, replicate, position, slice_set, slice_get, Option, Some, None, unwrap_or}
use Rattle.std.specs.List.{list_all}

-- for each element whether it is out, and the one given back last, until it is handed out
pub record Elements : Type 0 where
  pub out : List Bool
  pub remembered : Option ℕ

-- so many elements, of which none is out
abbrev pub new_elements : ℕ → Elements
new_elements count = record { out = replicate count false; remembered = None }

-- the lowest that is not out
abbrev pub first_free : List Bool → Option ℕ
first_free out = position not out

-- the first of two, if there is one
abbrev pub first_of_two : Option ℕ → Option ℕ → Option ℕ
first_of_two None second = second
first_of_two (Some k) second = Some k

-- the one that is handed out next: the one remembered, or the lowest
abbrev pub next_element : Elements → Option ℕ
next_element e = first_of_two e.remembered (first_free e.out)

-- the elements once one is handed out, and so forgotten
abbrev pub with_out : Elements → ℕ → Elements
with_out e k = record { out = slice_set e.out k true; remembered = None }

-- the elements once one is given back, and so remembered
abbrev pub with_back : Elements → ℕ → Elements
with_back e k = record { out = slice_set e.out k false; remembered = Some k }

-- whether an element is out
abbrev pub is_out : Elements → ℕ → Bool
is_out e k = unwrap_or (slice_get e.out k) false

-- every element is out
abbrev pub is_full : Elements → Bool
is_full e = list_all (λ out. out) e.out

-- none is out
abbrev pub is_idle : Elements → Bool
is_idle e = list_all not e.out
