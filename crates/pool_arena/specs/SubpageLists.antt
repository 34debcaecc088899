-- The subpages of a class that have a free element. No public clause cites this module.
use Rattle.std.specs.Prelude.{◌≡◌, ℕ, List, [], ◌∷◌, map, Option, Some, None}
use Rattle.std.specs.VecDeque.{deque_capacity}
use Rattle.pool_arena.specs.declared.subpage_list.SubpageAt.{SubpageAt}
use Rattle.pool_arena.specs.declared.subpage_list.SubpageList.TheInside.{Inside}

-- a subpage, by its chunk and first page
abbrev pub pair_of : SubpageAt → ℕ × ℕ
pair_of s = (s.chunk, s.page)

-- the subpages, the front first, and how many there is room for
pub record SubpagesState : Type 0 where
  pub room : ℕ
  pub subpages : List (ℕ × ℕ)

abbrev pub front_in : Inside → SubpagesState
front_in f = record { room = deque_capacity f.subpages; subpages = map pair_of f.subpages.items }

abbrev pub new_front : ℕ → SubpagesState
new_front room = record { room = room; subpages = [] }

abbrev pub with_subpages : SubpagesState → List (ℕ × ℕ) → SubpagesState
with_subpages f subpages = record f { subpages = subpages }

-- the first of the subpages, if there is one
abbrev pub first_subpage : List (ℕ × ℕ) → Option (ℕ × ℕ)
first_subpage [] = None
first_subpage (s ∷ subpages) = Some s

abbrev pub IsFirst : List (ℕ × ℕ) → Option SubpageAt → Type 0
IsFirst subpages None = subpages ≡ []
IsFirst subpages (Some s) = first_subpage subpages ≡ Some (pair_of s)
