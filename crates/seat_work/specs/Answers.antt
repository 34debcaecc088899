-- What an allocation answered, and what is in hand on the way.
use Rattle.std.specs.Prelude.{◌≡◌, ℕ, List, Option, Some, None, Result, Ok, Err, slice_get}
use Rattle.handle_bin.specs.Bins.{HandleValue}
use Rattle.pool_law.specs.declared.id.Region.{Region}
use Rattle.pool_law.specs.declared.id.RegionId.{RegionId}
use Rattle.pool_law.specs.declared.id.RootId.{RootId}
use Rattle.pool_law.specs.declared.note.Did.{Did}
use Rattle.pool_law.specs.declared.note.Object.TheVariants.{Bin, Root}
use Rattle.pool_law.specs.declared.report.Watch.{Watch}
use Rattle.pool_law.specs.declared.run.Reply.{Reply}
use Rattle.pool_law.specs.declared.run.Shape.{Shape}
use Rattle.pool_law.specs.Naming.{noted_by}
use Rattle.pool_law.specs.Patterns.{New, ask_arena, bear, obtain, one_more, with_handle}
use Rattle.pool_law.specs.Readers.{Reader, ◌>>=◌, give}
use Rattle.pool_table.specs.declared.views.Entry.{Entry}
use Rattle.pool_table.specs.declared.views.Entry.TheVariants.{At}
use Rattle.pool_table.specs.declared.views.SeatView.{SeatView}
use Rattle.shared_pool.specs.declared.seat.PoolSeat.{PoolSeat}
use Rattle.shared_pool.specs.SeatViews.{view_of, SameSeat}
use Rattle.shared_pool.specs.declared.pool.SharedPool.{SharedPool}
use Rattle.shared_pool.specs.Notes.{plain}
use Rattle.shared_pool.specs.RootNotes.{birth}
use Rattle.shared_pool.specs.SeatLanes.{lane_of}
use Rattle.shared_pool.specs.Seats.{IsNoted}
use Rattle.shared_pool.specs.Wearing.{FoundWorn}
use Rattle.seat_work.specs.declared.allocation.AllocNo.{AllocNo}
use Rattle.seat_work.specs.declared.allocation.AllocNo.TheVariants.{NoHandle, Full, Worn}
use Rattle.seat_work.specs.Changes.{Change, no_change, once_more}
use Rattle.seat_work.specs.Hands.{Hand, empty_hand, IsHeld}
use Rattle.seat_work.specs.Readings.{NotesAs}
use Rattle.seat_work.specs.Works.{IsLater}

-- a hand with a handle, with a region beside it, and with the token of a root
abbrev pub with_place : ℕ → Hand
with_place place = record empty_hand { place = Some place }

abbrev pub with_both : ℕ → RegionId → Hand
with_both place region = record empty_hand { place = Some place; region = Some region }

abbrev pub with_token : RootId → Hand
with_token root = record empty_hand { token = Some root }

-- what is in hand where a handle was asked for
abbrev pub hand_got : Option HandleValue → Hand
hand_got None = empty_hand
hand_got (Some handle) = with_place handle.place

-- a hand with a region, or none, beside the handle of a place, or none
abbrev pub hand_with : Option ℕ → Option Region → Hand
hand_with place None = record empty_hand { place = place }
hand_with place (Some region) = record empty_hand { place = place; region = Some region.id }

-- what it tells that a handle was asked for, and a region of the arena
abbrev pub handle_told : Option HandleValue → Change
handle_told None = record no_change { empty = 1 }
handle_told (Some handle) = no_change

abbrev pub region_told : Option Region → Change
region_told None = record no_change { full = 1 }
region_told (Some region) = no_change

-- a refusal for want of a handle, and of a region
abbrev pub empties : AllocNo → ℕ
empties NoHandle = 1
empties _ = 0

abbrev pub fulls : AllocNo → ℕ
fulls Full = 1
fulls _ = 0

-- what an allocation told: a root that the seat counts, or that its bin was empty or its arena full
abbrev pub refused : AllocNo → Change
refused why = record no_change { empty = empties why; full = fulls why }

abbrev pub allocated : Result RootId AllocNo → Change
allocated (Ok root) = once_more root
allocated (Err why) = refused why

-- the same seat took the handle of this place, the next of its lane
pub record TookHandle (pool : SharedPool) (place : ℕ) (old new : PoolSeat) : Type 0 where
  pub same : SameSeat old new
  pub number : ℕ
  pub noted : IsNoted pool old new (Bin (lane_of old)) number (plain (Did.Handle place))

-- the seat got so far that it had the handle of this place and a region in hand, and found the
-- place worn out; then it went on
pub record FindsWorn (pool : SharedPool) (place : ℕ) (old new : PoolSeat) : Type 0 where
  pub mid : PoolSeat
  pub before : IsLater pool old mid
  pub region : RegionId
  pub held : IsHeld (with_both place region) (view_of mid)
  pub found : FoundWorn pool place mid
  pub after : IsLater pool mid new

-- so it went with the handle that it took first
pub record MeetsWorn (pool : SharedPool) (old new : PoolSeat) : Type 0 where
  pub place : ℕ
  pub start : PoolSeat
  pub took : TookHandle pool place old start
  pub finds : FindsWorn pool place start new

-- the cause of a refusal as worn out, from before a handle was taken; and with the handle of a
-- place in hand
abbrev pub IsWorn : SharedPool → PoolSeat → PoolSeat → AllocNo → Type 0
IsWorn pool old new Worn = MeetsWorn pool old new
IsWorn pool old new _ = Unit {0}

abbrev pub IsWornAt : SharedPool → ℕ → PoolSeat → PoolSeat → AllocNo → Type 0
IsWornAt pool place old new Worn = FindsWorn pool place old new
IsWornAt pool place old new _ = Unit {0}

-- among these entries is the birth of the root with this region and this watch
pub record IsBornWith (root : RootId) (region : RegionId) (watch : Option Watch) (es : List Entry) :
    Type 0
  where
    pub at : ℕ
    pub number : ℕ
    pub lane : Option ℕ
    pub stands : slice_get es at
        ≡ Some (At (Root root.place) number (noted_by lane (birth root region watch)))

-- just the notes that the view has more are read so, and give this root with a region of this
-- class, which is born with this watch
pub record Bears
    (r : Reader (Result New Reply)) (class : ℕ) (watch : Option Watch) (root : RootId)
    (old new : SeatView) : Type 0
  where
    pub region : RegionId
    pub class_is : region.class ≡ class
    pub notes : NotesAs r (Ok (record { root = root; region = one_more region })) old new
    pub born : IsBornWith root region watch notes.added

-- just the notes that the view has more are read so, and give this answer. Of a place that is worn
-- out the law of lanes says nothing.
abbrev pub Allots :
    Reader (Result New Reply) → ℕ → Option Watch → Result RootId AllocNo →
    SeatView → SeatView → Type 0
Allots r class watch (Ok root) old new = Bears r class watch root old new
Allots r class watch (Err NoHandle) old new = NotesAs r (Err Reply.Handles) old new
Allots r class watch (Err Full) old new = NotesAs r (Err Reply.Full) old new
Allots r class watch (Err Worn) old new = Unit {0}

-- how an allocation of so many bytes is read on, by the handle that was got
abbrev pub with_got : Shape → ℕ → ℕ → Option HandleValue → Reader (Result New Reply)
with_got shape lane size None = give (Err Reply.Handles)
with_got shape lane size (Some handle) = with_handle shape lane size handle.place

-- how it is read on with a region of a class, and with one of the arena
abbrev pub with_class : Shape → ℕ → ℕ → ℕ → ℕ → Reader (Result New Reply)
with_class shape lane class size place = obtain shape lane class >>= bear lane place size

abbrev pub with_arena : Shape → ℕ → ℕ → ℕ → ℕ → Reader (Result New Reply)
with_arena shape lane class size place = ask_arena shape lane class >>= bear lane place size
