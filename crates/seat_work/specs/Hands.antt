-- What a seat has in hand, exactly: at most one root place, one region and one end token; and how
-- far it has closed and drained its caches.
use Rattle.std.specs.Prelude.{◌≡◌, ℕ, ◌+◌, ◌*◌, ◌/◌, ◌<◌, ◌==◌, cond, if◌then◌else◌, nat_lt, unwrap_or, Option, Some, None, IfSome}
use Rattle.size_classes.specs.Sizes.{class_count, size_at}
use Rattle.pool_law.specs.declared.id.RootId.{RootId}
use Rattle.pool_law.specs.declared.id.RegionId.{RegionId}
use Rattle.pool_law.specs.declared.id.Region.{Region}
use Rattle.pool_law.specs.Limits.{geometry_of}
use Rattle.pool_law.specs.Places.{IsInPlace}
use Rattle.pool_law.specs.Same.{same_root}
use Rattle.history_laws.specs.NoteCounts.{is_taking, uses_in}
use Rattle.handle_bin.specs.Bins.{HandleValue}
use Rattle.shared_pool.specs.declared.seat.PoolSeat.{PoolSeat}
use Rattle.pool_table.specs.declared.views.SeatView.{SeatView}
use Rattle.pool_table.specs.Counts.{weigh, on_this, on_place, ref_born, ref_ended, ref_vacated}
use Rattle.pool_table.specs.Hands.{taken, put_down, at_birth, weight_taken, weight_put_down, uses_come, uses_gone, ends}
use Rattle.shared_pool.specs.SeatViews.{view_of}
use Rattle.shared_pool.specs.Quotas.{quota_left, has_closed}
use Rattle.shared_pool.specs.declared.pool.SharedPool.{SharedPool}

-- the lane of a view that has one
abbrev pub lane_in : SeatView → ℕ
lane_in v = unwrap_or v.own.number 0

-- so many caches of the lane are closed; so many were asked for a quota by the draining that is under
-- way, and so many regions of the last of these are still to be shed
pub record Hand : Type 0 where
  pub place : Option ℕ
  pub region : Option RegionId
  pub token : Option RootId
  pub closed : ℕ
  pub drained : ℕ
  pub quota : ℕ

abbrev pub empty_hand : Hand
empty_hand =
    record { place = None; region = None; token = None; closed = 0; drained = 0; quota = 0 }

-- 1 where the place is held, and the root's token
abbrev pub is_place : ℕ → Option ℕ → ℕ
is_place p None = 0
is_place p (Some q) = cond (q == p) 1 0

abbrev pub is_token : RootId → Option RootId → ℕ
is_token root None = 0
is_token root (Some other) = cond (same_root other root) 1 0

-- what the region that is held weighs
abbrev pub held_weight : (RegionId → ℕ) → Option RegionId → ℕ
held_weight weight None = 0
held_weight weight (Some r) = weight r

-- this and no more is in the view's hands, no birth or end is half done, and the caches are closed
-- and drained so far
pub record IsHeld (hand : Hand) (v : SeatView) : Type 0 where
  pub places : (p : ℕ) → taken p v ≡ put_down p v + is_place p hand.place
  pub births : (p : ℕ) → weigh (at_birth p) v ≡ weigh (on_place ref_born p) v
  pub regions : (q : RegionId) →
      weight_taken (is_taking q) v ≡ weight_put_down (is_taking q) v + held_weight (is_taking q) hand.region
  pub uses : (q : RegionId) →
      uses_come q v ≡ uses_gone q v + held_weight (uses_in q) hand.region
  pub tokens : (root : RootId) →
      weigh (on_this ref_ended root) v
      ≡ weigh (on_this ref_vacated root) v + is_token root hand.token
  pub ended : (root : RootId) → weigh (ends root) v ≡ weigh (on_this ref_vacated root) v
  pub quotas : (class : ℕ) →
      quota_left (lane_in v) class v.own.notes
      ≡ (if class + 1 == hand.drained then hand.quota else 0)
  pub closes : (class : ℕ) →
      has_closed (lane_in v) class v.own.notes ≡ nat_lt class hand.closed

-- a handle of the pool, whoever has it
pub record IsHandle (pool : SharedPool) (h : HandleValue) : Type 0 where
  pub lane : h.lane ≡ h.place / pool.table.layout.shape.handles
  pub place : h.place < pool.table.layout.shape.lanes * pool.table.layout.shape.handles

-- a region of the pool, with the memory of its place, as long as its class says
pub record IsRegion (pool : SharedPool) (s : PoolSeat) (r : Region) : Type 0 where
  pub here : IfSome (view_of s).setting (λ t. IsInPlace t.grounds r.id.place r.piece)
  pub owner : r.id.owner < pool.table.layout.shape.lanes
  pub class : r.id.class < class_count (geometry_of pool.table.layout.shape)
  pub len : r.id.place.len ≡ size_at r.id.class
