-- What calls cost a seat of its turns and its moves.
use Rattle.std.specs.Prelude.{◌≡◌, ℕ, ◌+◌, ◌≤◌}
use Rattle.pool_table.specs.Letters.{sent_on}
use Rattle.shared_pool.specs.declared.seat.PoolSeat.{PoolSeat}
use Rattle.shared_pool.specs.SeatViews.{view_of}
use Rattle.shared_pool.specs.Quotas.{quota_left}
use Rattle.shared_pool.specs.SeatLanes.{lane_of}

-- no cache of the seat's lane has a quota left to shed
abbrev pub HasNoQuota : PoolSeat → Type 0
HasNoQuota s = (class : ℕ) → quota_left (lane_of s) class (view_of s).own.notes ≡ 0

-- the seat spent at most so many turns and moves, and got no quota
pub record Spends (turns moves : ℕ) (old new : PoolSeat) : Type 0 where
  pub turns_left : (view_of old).turns ≤ (view_of new).turns + turns
  pub moves_left : (view_of old).moves ≤ (view_of new).moves + moves
  pub no_quota : HasNoQuota old → HasNoQuota new

-- the seat posted nothing, and is of the same lane and setting
pub record PostsNothing (old new : PoolSeat) : Type 0 where
  pub setting : (view_of new).setting ≡ (view_of old).setting
  pub number : (view_of new).own.number ≡ (view_of old).own.number
  pub posted : (sender receiver : ℕ) →
      sent_on sender receiver (view_of new).own.notes
      ≡ sent_on sender receiver (view_of old).own.notes
