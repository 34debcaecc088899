-- What stands at home for a composite of a board: its core, with the components that it was made with.
use Rattle.std.specs.Prelude.{◌≡◌, ℕ, List, Option, Some, None, map, filter_map, slice_get, box_value}
use Rattle.board_table.specs.declared.table.Section.{Section}
use Rattle.shared_composite.specs.declared.cores.Core.{Core}
use Rattle.shared_composite.specs.declared.home.Home.{Home}
use Rattle.shared_composite.specs.declared.home.Origin.{Origin}
use Rattle.shared_composite.specs.Cores.{IsCore, IsKept, turns_of}

-- the core is the one that was given for composite k, further on by gets alone: its seat is one of the
-- pool, and counts and knows each component as at first
pub record CoreStands (origin : Origin) (k : ℕ) (core : Core) : Type 0 where
  pub made : Core
  pub made_is : slice_get origin.cores k ≡ Some made
  pub core_is : IsCore origin.pool core
  pub kept : IsKept made core

abbrev pub HomeStands : Origin → ℕ → Home → Type 0
HomeStands origin k home = CoreStands origin k (box_value home.core)

-- the turns that its seat has left in the pool
abbrev pub home_turns : Home → ℕ
home_turns home = turns_of (box_value home.core)

-- the core of a section
abbrev pub core_of : Section Home → Core
core_of section = box_value section.home.core

-- the core in a slot, and the cores in slots, in order
abbrev pub core_in_slot : Option Home → Option Core
core_in_slot None = None
core_in_slot (Some home) = Some (box_value home.core)

abbrev pub cores_in : List (Option Home) → List Core
cores_in slots = filter_map core_in_slot slots

-- each slot has its core, in the same order
abbrev pub AreBoxed : List Core → List (Option Home) → Type 0
AreBoxed cores slots = map core_in_slot slots ≡ map Some cores
