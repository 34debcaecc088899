-- Bounds on what names are bound to, and on counts.
use Rattle.std.proofs.Common.{◌≡◌, ℕ, ◌≤◌, Option, Some, None, arith}
use Rattle.std.specs.Prelude.{IfSome, option_map}
use Rattle.std.specs.Ordering.{nat_cmp}
use Rattle.std.specs.BTreeMap.{get}
use Rattle.pool_law.specs.LaneStates.{new_lane}
use Rattle.lane_reader.specs.declared.bound.Bound.{Bound}
use Rattle.lane_reader.specs.declared.lane.Lane.{Lane}
use Rattle.lane_reader.specs.Bounding.{IsBounded, AreBounded}
use Rattle.lane_reader.specs.Standing.{IsLane}
use Rattle.lane_reader.specs.Viewing.{bound_of}

is_bounded-more : (m n : ℕ) (bound : Bound) → m ≤ n → IsBounded m bound → IsBounded n bound
is_bounded-more m n (Bound.Plain view) more bounded = tt
is_bounded-more m n (Bound.Composed composite) more bounded =
    record { parts = bounded.parts; size = bounded.size; count = omega (arith, more, bounded.count) }

if_bounded-more : (m n : ℕ) (o : Option Bound) → m ≤ n → IfSome o (IsBounded m) → IfSome o (IsBounded n)
if_bounded-more m n None more bounded = tt
if_bounded-more m n (Some bound) more bounded = is_bounded-more m n bound more bounded

-- names within bounds are within wider ones
pub are_bounded-more : (m n : ℕ) (lane : Lane) → m ≤ n → AreBounded m lane → AreBounded n lane
are_bounded-more m n lane more bounded name = if_bounded-more m n (get nat_cmp lane.names name) more (bounded name)

none-bounded : (most : ℕ) (o : Option Bound) → None ≡ option_map bound_of o → IfSome o (IsBounded most)
none-bounded most None none = tt
none-bounded most (Some bound) none = absurd (cc none)

-- nothing is bound at first
pub new-bounded : (most : ℕ) (lane : Lane) → IsLane lane new_lane → AreBounded most lane
new-bounded most lane is name = none-bounded most (get nat_cmp lane.names name) (is.names name)
