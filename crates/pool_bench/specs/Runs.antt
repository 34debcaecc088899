-- What the blocks of a lane cost, and what its seat is before and behind them.
use Rattle.std.specs.Prelude.{◌≡◌, ℕ, ◌*◌, ◌<◌, List, length, slice_index_or}
use Rattle.shared_pool.specs.declared.seat.PoolSeat.{PoolSeat}
use Rattle.shared_pool.specs.SeatViews.{view_of}
use Rattle.shared_pool.specs.declared.pool.SharedPool.{SharedPool}
use Rattle.shared_pool.specs.Seats.{IsPoolSeat}
use Rattle.seat_work.specs.Hands.{empty_hand, IsHeld}
use Rattle.seat_work.specs.Works.{Works}
use Rattle.pool_bench.specs.declared.runner.Runner.{Runner}

-- what a block costs at most
abbrev pub block_turns : ℕ
block_turns = 16

abbrev pub block_moves : ℕ
block_moves = 1

-- the seat may work for so many blocks
abbrev pub MayRun : SharedPool → ℕ → PoolSeat → Type 0
MayRun pool blocks s = Works pool empty_hand (block_turns * blocks) (block_moves * blocks) s

-- it has nothing in hand, and its lane is the one that it had
pub record HasRun (pool : SharedPool) (old new : PoolSeat) : Type 0 where
  pub seat : IsPoolSeat pool new
  pub held : IsHeld empty_hand (view_of new)
  pub number : (view_of new).own.number ≡ (view_of old).own.number

-- each of these runners' seats has
pub record HaveRun (pool : SharedPool) (before after : List Runner) : Type 0 where
  pub many : length after ≡ length before
  pub each : (k : ℕ) (d : Runner) → k < length before →
      HasRun pool (slice_index_or before k d).seat (slice_index_or after k d).seat
