-- The lane of a seat.
use Rattle.std.specs.Prelude.{ℕ, unwrap_or}
use Rattle.shared_pool.specs.declared.seat.PoolSeat.{PoolSeat}
use Rattle.shared_pool.specs.SeatViews.{view_of}

-- the lane of a seat that has a number
abbrev pub lane_of : PoolSeat → ℕ
lane_of s = unwrap_or (view_of s).own.number 0
