-- Bounds on what the names of a lane are bound to.
use Rattle.std.specs.Prelude.{ℕ, ◌≤◌, ◌<◌, ◌^◌, map, vec_len, IfSome}
use Rattle.std.specs.Ordering.{nat_cmp}
use Rattle.std.specs.BTreeMap.{get}
use Rattle.pool_law.specs.Composites.{size_of}
use Rattle.lane_reader.specs.declared.composite.Composite.{Composite}
use Rattle.lane_reader.specs.declared.bound.Bound.{Bound}
use Rattle.lane_reader.specs.declared.bound.Update.{Update}
use Rattle.lane_reader.specs.declared.bound.Change.{Change}
use Rattle.lane_reader.specs.declared.lane.Lane.{Lane}
use Rattle.lane_reader.specs.Viewing.{part_of}

-- a composite has few parts, no more bytes than a number of 32 bits says, and no greater count
pub record IsSmall (most : ℕ) (c : Composite) : Type 0 where
  pub parts : vec_len c.parts ≤ 16
  pub size : size_of (map part_of c.parts.items) < 2 ^ 32
  pub count : c.count ≤ most

-- what is bound is within these bounds
abbrev pub IsBounded : ℕ → Bound → Type 0
IsBounded most (Bound.Plain view) = Unit {0}
IsBounded most (Bound.Composed composite) = IsSmall most composite

-- what changes of it keeps it there
abbrev pub UpdateIsBounded : ℕ → Update → Type 0
UpdateIsBounded most (Update.Reader reader) = Unit {0}
UpdateIsBounded most (Update.Writer writer) = Unit {0}
UpdateIsBounded most (Update.Count count) = count ≤ most

-- what becomes of the names keeps them there
abbrev pub ChangeIsBounded : ℕ → Change → Type 0
ChangeIsBounded most Change.Same = Unit {0}
ChangeIsBounded most (Change.Bind name bound) = IsBounded most bound
ChangeIsBounded most (Change.Unbind name) = Unit {0}
ChangeIsBounded most (Change.Update name update) = UpdateIsBounded most update

-- all that the names of a lane are bound to is within these bounds
abbrev pub AreBounded : ℕ → Lane → Type 0
AreBounded most lane = (name : ℕ) → IfSome (get nat_cmp lane.names name) (IsBounded most)
