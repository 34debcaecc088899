-- The seat and the commands of a new lane.
use Rattle.std.specs.Prelude.{◌≡◌, ℕ, ◌*◌, ◌<◌, ◌≤◌, List, [], length, replicate, All, None, IfSome, vec_capacity}
use Rattle.std.specs.List.{list_any}
use Rattle.pool_law.specs.declared.command.Command.{Command}
use Rattle.pool_law.specs.declared.id.RootId.{RootId}
use Rattle.pool_law.specs.declared.run.Shape.{Shape}
use Rattle.pool_law.specs.Bounds.{composes, note_bound}
use Rattle.pool_law.specs.Legal.{AreCommands}
use Rattle.pool_law.specs.Limits.{IsShape, geometry_of}
use Rattle.leak_records.specs.Records.{new_sampler}
use Rattle.shared_pool.specs.declared.seat.PoolSeat.{PoolSeat}
use Rattle.shared_pool.specs.SeatViews.{view_of}
use Rattle.shared_pool.specs.declared.pool.SharedPool.{SharedPool}
use Rattle.shared_pool.specs.MailAnswers.{RoomFor}
use Rattle.shared_pool.specs.SeatLanes.{lane_of}
use Rattle.shared_pool.specs.Seats.{IsPoolSeat}
use Rattle.shared_pool.specs.Wearing.{IsShort}
use Rattle.lane_core.specs.declared.lane.Parts.{Parts}
use Rattle.lane_context.specs.Named.{changed_name}
use Rattle.lane_stages.specs.Counting.{counted}
use Rattle.lane_core.specs.Lanes.{left_for_all}

-- the seat of a new lane of the pool, for these commands: it has noted nothing, has turns and
-- moves enough, and the mails have room for what it sends
pub record IsFirstSeat (pool : SharedPool) (shape : Shape) (commands : List Command)
    (seat : PoolSeat) : Type 0 where
  pub shape_is : shape ≡ pool.table.layout.shape
  pub limits : IsShape shape
  -- the pool's places can't wear out
  pub short : IsShort pool.table.layout
  pub seat_is : IsPoolSeat pool seat
  pub notes : (view_of seat).own.notes ≡ []
  pub turns : note_bound commands ≤ (view_of seat).turns
  pub moves : (left_for_all commands).moves ≤ (view_of seat).moves
  pub mails : (to : ℕ) → to < shape.lanes →
      RoomFor pool (lane_of seat) to ((left_for_all commands).sends to)

-- the commands of a new lane
pub record AreFirst (shape : Shape) (commands : List Command) : Type 0 where
  pub commands_are : AreCommands shape commands

-- the name whose binding a command may change is below this, where there is one
abbrev pub ChangesBelow : ℕ → Command → Type 0
ChangesBelow count command = IfSome (changed_name command) (λ name. name < count)

-- what a new lane of this number is made of, beside its commands and its seat: none of its names is
-- bound, it counts no root, and there is room for its log
pub record AreParts (shape : Shape) (lane : ℕ) (commands : List Command) (p : Parts) : Type 0 where
  pub classes : p.classes ≡ geometry_of shape
  pub names : p.names ≡ replicate (length p.names) None
  pub composes : p.composes ≡ list_any composes commands
  pub below : All (ChangesBelow (length p.names)) commands
  pub counts : (root : RootId) → counted p.counts root ≡ 0
  pub places : length p.counts ≡ shape.lanes * shape.handles
  pub sampler : p.sampler ≡ new_sampler lane shape.level shape.interval
  pub replies : (p.log.0.items ≡ []) × (length commands ≤ vec_capacity p.log.0)
  pub notes : (p.log.1.items ≡ []) × (note_bound commands ≤ vec_capacity p.log.1)
  pub spare : shape.lanes ≤ vec_capacity p.spare.seats
