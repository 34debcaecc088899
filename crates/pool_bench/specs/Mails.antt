-- The mail from each lane to the next, and how much room it has.
use Rattle.std.specs.Prelude.{◌≡◌, ℕ, ◌+◌, ◌*◌, ◌<◌, List, length, Some, slice_get, nat_lt, if◌then◌else◌}
use Rattle.shared_pool.specs.declared.seat.PoolSeat.{PoolSeat}
use Rattle.shared_pool.specs.SeatViews.{view_of}
use Rattle.shared_pool.specs.declared.pool.SharedPool.{SharedPool}
use Rattle.pool_table.specs.Letters.{sent_on}
use Rattle.shared_pool.specs.MailAnswers.{RoomFor}
use Rattle.shared_pool.specs.SeatLanes.{lane_of}
use Rattle.pool_bench.specs.declared.words.Plan.{Plan}

-- the lane behind the last is the first
abbrev pub next_lane : ℕ → ℕ → ℕ
next_lane lanes lane = if nat_lt (lane + 1) lanes then lane + 1 else 0

-- each lane may post to the next what the plan says
pub record IsMailFor (p : Plan) (mail : List ℕ) : Type 0 where
  pub many : length mail ≡ p.threads * p.threads
  pub each : (lane : ℕ) → lane < p.threads →
      slice_get mail (lane * p.threads + next_lane p.threads lane) ≡ Some p.mail

-- the seat's lane may post so many parcels more to the next
abbrev pub HasMail : SharedPool → ℕ → PoolSeat → Type 0
HasMail pool count s =
    let next = next_lane pool.table.layout.shape.lanes (lane_of s) in
    RoomFor pool (lane_of s) next (sent_on (lane_of s) next (view_of s).own.notes + count)
