-- The seats with which a pool is closed.
use Rattle.std.specs.Prelude.{◌≡◌, ℕ, ◌<◌, List, length, map, Some, HoldsAt}
use Rattle.pool_law.specs.declared.id.RootId.{RootId}
use Rattle.pool_law.specs.declared.id.RegionId.{RegionId}
use Rattle.pool_table.specs.declared.views.Part.{Part}
use Rattle.pool_table.specs.declared.views.SeatView.{SeatView}
use Rattle.shared_pool.specs.declared.seat.PoolSeat.{PoolSeat}
use Rattle.pool_table.specs.Counts.{HasToken}
use Rattle.pool_table.specs.Hands.{HasTaking}
use Rattle.shared_pool.specs.SeatViews.{view_of}
use Rattle.shared_pool.specs.declared.pool.SharedPool.{SharedPool}
use Rattle.shared_pool.specs.Closing.{HasNoPlace}
use Rattle.shared_pool.specs.Seats.{IsPoolSeat}

-- no region, no handle and no token is in the view's hands
pub record HasNothing (v : SeatView) : Type 0 where
  pub region : (q : RegionId) → HasTaking q v → ⊥
  pub place : HasNoPlace v
  pub token : (root : RootId) → HasToken root v → ⊥

-- the seat of this lane, with nothing in hand
pub record IsDone (pool : SharedPool) (lane : ℕ) (s : PoolSeat) : Type 0 where
  pub seat : IsPoolSeat pool s
  pub number : (view_of s).own.number ≡ Some lane
  pub nothing : HasNothing (view_of s)

-- the seats of all lanes, in order, with nothing in hand
pub record AreDone (pool : SharedPool) (seats : List PoolSeat) : Type 0 where
  pub many : length seats ≡ pool.table.layout.shape.lanes
  pub each : (lane : ℕ) → lane < pool.table.layout.shape.lanes →
      HoldsAt (IsDone pool lane) seats lane

-- the notes that each of them made
abbrev pub parts_in : List PoolSeat → List Part
parts_in seats = map (λ s. (view_of s).own) seats

-- these are such seats, but that letters of their mails may have been taken out since
pub record WereDone (pool : SharedPool) (seats : List PoolSeat) : Type 0 where
  pub before : List PoolSeat
  pub done : AreDone pool before
  pub same : map (λ (s : PoolSeat). s.seat) before ≡ map (λ (s : PoolSeat). s.seat) seats
