-- The end of a root whose last count a core released, one step at a time: what is in hand, and what
-- a step does.
use Rattle.std.specs.Prelude.{◌≡◌, ℕ, ◌+◌, ◌<◌, ◌≤◌, false, List, length, map, Option, Some, None, IfSome, IsTrue}
use Rattle.std.specs.List.{list_all}
use Rattle.pool_law.specs.declared.id.RegionId.{RegionId}
use Rattle.pool_law.specs.declared.id.RootId.{RootId}
use Rattle.pool_law.specs.Limits.{cached_classes}
use Rattle.history_laws.specs.NoteCounts.{is_taking}
use Rattle.pool_table.specs.declared.views.Entry.{Entry}
use Rattle.pool_table.specs.declared.views.SeatView.{SeatView}
use Rattle.pool_table.specs.Counts.{HasToken}
use Rattle.pool_table.specs.Hands.{taken, put_down, weight_taken, weight_put_down}
use Rattle.shared_pool.specs.declared.pool.SharedPool.{SharedPool}
use Rattle.shared_pool.specs.declared.seat.PoolSeat.{PoolSeat}
use Rattle.shared_pool.specs.Closing.{entry_of}
use Rattle.shared_pool.specs.Holding.{HoldsRegion, HoldsHandle}
use Rattle.shared_pool.specs.RootNotes.{HoldsToken}
use Rattle.shared_pool.specs.Seats.{IsPoolSeat, FoundBusy}
use Rattle.shared_pool.specs.SeatViews.{view_of, SameSeat}
use Rattle.seat_work.specs.Changes.{Changes, no_change}
use Rattle.seat_work.specs.Growth.{HasMore, is_quiet_entry}
use Rattle.seat_work.specs.Hands.{Hand, IsHeld, is_place, is_token, held_weight}
use Rattle.lane_stages.specs.declared.retirement.Ending.{Ending}
use Rattle.lane_stages.specs.declared.retirement.Ending.TheVariants.{Root, Cache, Arena, Home}
use Rattle.lane_stages.specs.declared.stage_step.StageStep.{StageStep}
use Rattle.lane_stages.specs.declared.stage_step.StageStep.TheVariants.{More, Held, Done}
use Rattle.seat_work.specs.Readings.{ReadsOn}
use Rattle.lane_stages.specs.Readings.{none_asked}
use Rattle.lane_stages.specs.Releasings.{hand_in, rest_in}

-- the turns that the rest of an end takes at most
abbrev pub turns_in : Option Ending → ℕ
turns_in None = 0
turns_in (Some (Root token)) = 4
turns_in (Some (Cache region handle)) = 3
turns_in (Some (Arena region handle)) = 2
turns_in (Some (Home handle)) = 1

-- the pool's seat has in hand what is left of the root
abbrev pub Holds : SharedPool → PoolSeat → Ending → Type 0
Holds pool seat (Root token) = HoldsToken seat token
Holds pool seat (Cache region handle) =
    HoldsRegion pool seat region × HoldsHandle pool seat handle
    × (region.id.class < cached_classes)
Holds pool seat (Arena region handle) =
    HoldsRegion pool seat region × HoldsHandle pool seat handle
Holds pool seat (Home handle) = HoldsHandle pool seat handle

-- no place, no region and no token is in the view's hands but this
pub record HasOnly (hand : Hand) (v : SeatView) : Type 0 where
  pub places : (p : ℕ) → taken p v ≤ put_down p v + is_place p hand.place
  pub regions : (q : RegionId) →
      weight_taken (is_taking q) v ≤ weight_put_down (is_taking q) v + held_weight (is_taking q) hand.region
  pub tokens : (root : RootId) → HasToken root v → is_token root hand.token ≡ 1

-- what is left behind a step
abbrev pub after : StageStep Ending (Unit {0}) → Option Ending
after (More next) = Some next
after (Held held again) = Some again
after (Done answer) = None

-- a seat of the pool that has just this of an end in hand, and a turn left
pub record MayEnd (pool : SharedPool) (seat : PoolSeat) (stage : Ending) : Type 0 where
  pub seat_is : IsPoolSeat pool seat
  pub turn : 0 < (view_of seat).turns
  pub holds : Holds pool seat stage
  pub only : HasOnly (hand_in (Some stage)) (view_of seat)

-- a step from this to that added these entries, which are the next of what the law says is left; the
-- seat counts what it counted, and has just that in hand
pub record Ended
    (pool : SharedPool) (old new : PoolSeat) (stage : Ending) (next : Option Ending)
    (added : List Entry) : Type 0
  where
    pub same : SameSeat old new
    pub seat : IsPoolSeat pool new
    pub more : HasMore (view_of old) (view_of new) added
    pub quiet : IsTrue (list_all is_quiet_entry added)
    pub some : 0 < length added
    pub turns : (view_of old).turns + turns_in next ≤ (view_of new).turns + turns_in (Some stage)
    pub counts : Changes no_change (view_of old) (view_of new)
    pub holds : IfSome next (Holds pool new)
    pub only : HasOnly (hand_in next) (view_of new)
    pub hand : IsHeld (hand_in (Some stage)) (view_of old) → IsHeld (hand_in next) (view_of new)
    pub read :
        let shape = pool.table.layout.shape in
        ReadsOn (rest_in shape (Some stage)) (map entry_of added) none_asked (rest_in shape next)

-- another seat was there, and nothing changed
pub record StillEnds (pool : SharedPool) (old new : PoolSeat) : Type 0 where
  pub same : SameSeat old new
  pub seat : IsPoolSeat pool new
  pub view : view_of new ≡ view_of old

-- what a step did, by what it came to
abbrev pub HasEnded :
    SharedPool → PoolSeat → PoolSeat → Ending → StageStep Ending (Unit {0}) → Type 0
HasEnded pool old new stage (More next) =
    (added : List Entry) × Ended pool old new stage (Some next) added
HasEnded pool old new stage (Held held again) =
    (again ≡ stage) × StillEnds pool old new × FoundBusy pool held.object false old new held
HasEnded pool old new stage (Done answer) =
    (added : List Entry) × Ended pool old new stage None added
