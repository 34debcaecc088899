-- A lane between two commands.
use Rattle.std.specs.Prelude.{ℕ, Bool, nat_le, List, [], ◌∷◌, map, Option, Some, option_map, option_and_then}
use Rattle.pool_law.specs.declared.id.RootId.{RootId}
use Rattle.pool_law.specs.declared.id.ViewData.{ViewData}
use Rattle.pool_law.specs.Counts.{count_of}
use Rattle.pool_law.specs.Readers.{ToldNotes, Log}
use Rattle.pool_law.specs.Composites.{Composite, composite_of, extended_by, readable}
use Rattle.pool_law.specs.Names.{Bound, Names, lookup, view_in, composite_in}

-- what a lane knows between two commands
pub record LaneState : Type 0 where
  pub names : Names
  pub seen : ToldNotes  -- all that it has noted, oldest first
  pub asked : ℕ  -- how many allocations asked a cache since the last sweep

-- a lane at first
abbrev pub new_lane : LaneState
new_lane = record { names = []; seen = []; asked = 0 }

-- the lane's log, of which these entries are still to be read
abbrev pub log_at : LaneState → ToldNotes → Log
log_at s es = record { seen = s.seen; asked = s.asked; left = es }

-- the lane with these names, where its log was read up to here
abbrev pub state_at : Names → Log → LaneState
state_at names log = record { names = names; seen = log.seen; asked = log.asked }

-- the lane counts the root
abbrev pub counts : LaneState → RootId → Bool
counts s root = nat_le 1 (count_of root s.seen)

-- what a name is bound to
abbrev pub named : LaneState → ℕ → Option Bound
named s name = lookup name s.names

-- the view of a name
abbrev pub view_named : LaneState → ℕ → Option ViewData
view_named s name = option_and_then view_in (named s name)

-- the composite of a name
abbrev pub composite_named : LaneState → ℕ → Option Composite
composite_named s name = option_and_then composite_in (named s name)

-- the views of these names, if each has one
abbrev pub views_named : LaneState → List ℕ → Option (List ViewData)
views_named s [] = Some []
views_named s (name ∷ names) =
    option_and_then (λ v. option_map (λ vs. v ∷ vs) (views_named s names)) (view_named s name)

-- a new composite of the readable bytes of these names
abbrev pub composite_from : LaneState → List ℕ → Option Composite
composite_from s names = option_map (λ vs. composite_of (map readable vs)) (views_named s names)

-- a composite with the readable bytes of a name behind it
abbrev pub composite_with : LaneState → ℕ → ℕ → Option Composite
composite_with s whole name =
    option_and_then (λ c. option_map (λ v. extended_by (readable v) c) (view_named s name))
    (composite_named s whole)
