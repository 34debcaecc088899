-- A lane as the program keeps it, against the law's.
use Rattle.std.specs.Prelude.{◌≡◌, ℕ, Option, Some, None, option_map}
use Rattle.std.specs.Ordering.{nat_cmp}
use Rattle.std.specs.BTreeMap.{get}
use Rattle.pool_law.specs.Names.{Names, lookup, bind, without}
use Rattle.pool_law.specs.LaneStates.{LaneState}
use Rattle.lane_reader.specs.declared.lane.Lane.{Lane}
use Rattle.lane_reader.specs.declared.bound.Update.{Update}
use Rattle.lane_reader.specs.declared.bound.Change.{Change}
use Rattle.lane_reader.specs.Viewing.{bound_of, updated}
use Rattle.lane_reader.specs.Counting.{AreCounts}

-- the names of a lane are these of the law
abbrev pub AreNames : Lane → Names → Type 0
AreNames lane names =
    (name : ℕ) → lookup name names ≡ option_map bound_of (get nat_cmp lane.names name)

-- the lane is in this state of the law
pub record IsLane (lane : Lane) (s : LaneState) : Type 0 where
  pub names : AreNames lane s.names
  pub counts : AreCounts lane.counts s.seen
  pub asked : s.asked ≡ lane.asked

-- the names once what a name is bound to has changed, if it is bound
abbrev pub rebound_to : ℕ → Update → Option Rattle.pool_law.specs.Names.Bound → Names → Names
rebound_to name update None names = names
rebound_to name update (Some bound) names = bind name (updated update bound) names

-- the same
abbrev pub rebound : ℕ → Update → Names → Names
rebound name update names = rebound_to name update (lookup name names) names

-- the names after a command
abbrev pub changed : Change → Names → Names
changed Change.Same names = names
changed (Change.Bind name bound) names = bind name (bound_of bound) names
changed (Change.Unbind name) names = without name names
changed (Change.Update name update) names = rebound name update names
