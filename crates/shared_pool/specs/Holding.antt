-- What a seat of a pool has in its hands, as a call that takes it asks, and one that gives it says.
use Rattle.std.specs.Prelude.{◌≡◌, ◌*◌, ◌/◌, ◌<◌, IfSome}
use Rattle.size_classes.specs.Sizes.{class_count, size_at}
use Rattle.pool_law.specs.declared.id.Region.{Region}
use Rattle.pool_law.specs.Limits.{geometry_of}
use Rattle.pool_law.specs.Places.{IsInPlace}
use Rattle.handle_bin.specs.Bins.{HandleValue}
use Rattle.shared_pool.specs.declared.seat.PoolSeat.{PoolSeat}
use Rattle.shared_pool.specs.SeatViews.{view_of}
use Rattle.pool_table.specs.Hands.{InHand, NoneWaits, HasRegion}
use Rattle.shared_pool.specs.declared.pool.SharedPool.{SharedPool}

-- a region of the pool is in the seat's hands, with the memory of its place, as long as its
-- class says
pub record HoldsRegion (pool : SharedPool) (s : PoolSeat) (r : Region) : Type 0 where
  pub hand : HasRegion r.id (view_of s)
  pub here : IfSome (view_of s).setting (λ t. IsInPlace t.grounds r.id.place r.piece)
  pub owner : r.id.owner < pool.table.layout.shape.lanes
  pub class : r.id.class < class_count (geometry_of pool.table.layout.shape)
  pub len : r.id.place.len ≡ size_at r.id.class

-- a handle of the pool is in the seat's hands: its place is, and no birth waits there
pub record HoldsHandle (pool : SharedPool) (s : PoolSeat) (h : HandleValue) : Type 0 where
  pub hand : InHand h.place (view_of s)
  pub waits : NoneWaits h.place (view_of s)
  pub lane : h.lane ≡ h.place / pool.table.layout.shape.handles
  pub place : h.place < pool.table.layout.shape.lanes * pool.table.layout.shape.handles
