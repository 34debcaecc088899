-- An allocation, step by step: what is in hand at each stage, and how the law reads the rest of it.
use Rattle.std.specs.Prelude.{◌≡◌, ℕ, ◌+◌, ◌*◌, ◌<◌, ◌≤◌, ⊤, false, List, [], length, map, Some, None, Result, Ok, Err}
use Rattle.std.specs.Global.{Vec}
use Rattle.pool_law.specs.declared.id.RootId.{RootId}
use Rattle.pool_law.specs.declared.note.Note.{Note}
use Rattle.pool_law.specs.declared.run.Shape.{Shape}
use Rattle.pool_law.specs.declared.run.Reply.{Reply}
use Rattle.pool_law.specs.Limits.{cached_classes}
use Rattle.pool_law.specs.Readers.{Reader, ◌>>=◌, give}
use Rattle.pool_law.specs.Patterns.{New, allot, obtain, ask_arena, bear}
use Rattle.leak_records.specs.Records.{Sampling}
use Rattle.handle_bin.specs.Bins.{HandleValue}
use Rattle.shared_pool.specs.declared.seat.PoolSeat.{PoolSeat}
use Rattle.shared_pool.specs.SeatViews.{view_of}
use Rattle.shared_pool.specs.declared.pool.SharedPool.{SharedPool}
use Rattle.shared_pool.specs.SeatLanes.{lane_of}
use Rattle.shared_pool.specs.Seats.{IsPoolSeat, FoundBusy}
use Rattle.lane_stages.specs.declared.allotment.Allotting.{Allotting}
use Rattle.lane_stages.specs.declared.allotment.Allotting.TheVariants.{Handle, Cache, Arena, Birth, Home}
use Rattle.lane_stages.specs.declared.allotment.Allotted.{Allotted}
use Rattle.lane_stages.specs.declared.allotment.Allotted.TheVariants.{New as Born, NoHandle, Full}
use Rattle.lane_stages.specs.declared.stage_step.StageStep.{StageStep}
use Rattle.lane_stages.specs.declared.stage_step.StageStep.TheVariants.{More, Held, Done}
use Rattle.lane_stages.specs.Logs.{HasWritten}
use Rattle.seat_work.specs.Hands.{Hand, empty_hand, IsHeld, IsHandle, IsRegion}
use Rattle.lane_stages.specs.Budgets.{Left, notes_alone, Spends}
use Rattle.lane_stages.specs.NextNotes.{BeginsAt}
use Rattle.lane_stages.specs.Readings.{none_asked, one_asked}
use Rattle.lane_stages.specs.Wrote.{Wrote}
use Rattle.seat_work.specs.Changes.{one_for}
use Rattle.lane_stages.specs.Counting.{AddCounts}
use Rattle.shared_pool.specs.Closing.{entry_of}

abbrev pub hand_of : Allotting → Hand
hand_of Handle = empty_hand
hand_of (Cache handle) = record empty_hand { place = Some handle.place }
hand_of (Arena handle) = record empty_hand { place = Some handle.place }
hand_of (Birth handle region) =
    record empty_hand { place = Some handle.place; region = Some region.id }
hand_of (Home handle) = record empty_hand { place = Some handle.place }

abbrev pub hand_after : StageStep Allotting Allotted → Hand
hand_after (More stage) = hand_of stage
hand_after (Held held stage) = hand_of stage
hand_after (Done answer) = empty_hand

-- what may still be spent on an allocation
abbrev pub left_with : ℕ → ℕ → ℕ → ℕ → Left
left_with notes asks takes moves =
    record { notes = notes; asks = asks; takes = takes; moves = moves; sends = λ to. 0 }

abbrev pub left_of : Allotting → Left
left_of Handle = left_with 5 1 1 1
left_of (Cache handle) = left_with 4 1 1 1
left_of (Arena handle) = left_with 3 0 1 1
left_of (Birth handle region) = left_with 2 0 0 1
left_of (Home handle) = left_with 1 0 0 0

-- a root that was born is counted once
abbrev pub born_in : StageStep Allotting Allotted → RootId → ℕ
born_in (Done (Born root region)) other = one_for root other
born_in _ other = 0

abbrev pub left_after : StageStep Allotting Allotted → Left
left_after (More stage) = left_of stage
left_after (Held held stage) = left_of stage
left_after (Done answer) = notes_alone 0

-- how a log is read from this stage on, of an allocation of this size and class
abbrev pub rest_of : Shape → ℕ → ℕ → ℕ → Allotting → Reader (Result New Reply)
rest_of shape lane size class Handle = allot shape lane size
rest_of shape lane size class (Cache handle) =
    obtain shape lane class >>= bear lane handle.place size
rest_of shape lane size class (Arena handle) =
    ask_arena shape lane class >>= bear lane handle.place size
rest_of shape lane size class (Birth handle region) =
    bear lane handle.place size (Some region.id)
rest_of shape lane size class (Home handle) = bear lane handle.place size None

-- and behind a step
abbrev pub rest_after : Shape → ℕ → ℕ → ℕ → StageStep Allotting Allotted → Reader (Result New Reply)
rest_after shape lane size class (More stage) = rest_of shape lane size class stage
rest_after shape lane size class (Held held stage) = rest_of shape lane size class stage
rest_after shape lane size class (Done (Born root region)) =
    give (Ok (record { root = root; region = region }))
rest_after shape lane size class (Done NoHandle) = give (Err Reply.Handles)
rest_after shape lane size class (Done Full) = give (Err Reply.Full)

-- the step at this stage asks a cache, or it doesn't
abbrev pub asks_of : Allotting → ℕ → ℕ
asks_of (Cache handle) = one_asked
asks_of _ = none_asked

-- a root of this size is born at a place of the shape
abbrev pub BornWithin : SharedPool → ℕ → StageStep Allotting Allotted → Type 0
BornWithin pool size (Done (Born root region)) =
    (root.place < pool.table.layout.shape.lanes * pool.table.layout.shape.handles)
    × (root.capacity ≡ size)
BornWithin pool size _ = ⊤

-- where another seat was there the same is to be tried again, nothing was noted, and the next note
-- stands at that object; else something was
abbrev pub IsTriedAgain :
    SharedPool → PoolSeat → PoolSeat → ℕ → ℕ → Allotting → StageStep Allotting Allotted →
    List Note → Type 0
IsTriedAgain pool old new size class stage (Held held again) notes =
    (again ≡ stage) × (notes ≡ []) × FoundBusy pool held.object false old new held
    × BeginsAt held.object (rest_of pool.table.layout.shape (lane_of old) size class stage)
IsTriedAgain pool old new size class stage _ notes = 0 < length notes

-- a handle of the pool, of the bin of the seat's lane
abbrev pub IsOwnHandle : SharedPool → PoolSeat → HandleValue → Type 0
IsOwnHandle pool seat handle = IsHandle pool handle × (handle.lane ≡ lane_of seat)

-- what is in hand is the pool's, and the region is of the class
abbrev pub Fits : SharedPool → PoolSeat → ℕ → Allotting → Type 0
Fits pool seat class Handle = ⊤
Fits pool seat class (Cache handle) = IsOwnHandle pool seat handle × (class < cached_classes)
Fits pool seat class (Arena handle) = IsOwnHandle pool seat handle
Fits pool seat class (Birth handle region) =
    IsHandle pool handle × IsRegion pool seat region × (region.id.class ≡ class)
Fits pool seat class (Home handle) = IsOwnHandle pool seat handle

abbrev pub FitsAfter : SharedPool → PoolSeat → ℕ → StageStep Allotting Allotted → Type 0
FitsAfter pool seat class (More stage) = Fits pool seat class stage
FitsAfter pool seat class (Held held stage) = Fits pool seat class stage
FitsAfter pool seat class (Done answer) = ⊤

-- a seat of the pool with a turn left, and just what the stage has in hand
pub record MayAllot
    (pool : SharedPool) (seat : PoolSeat) (class : ℕ) (stage : Allotting) : Type 0
  where
    pub seat_is : IsPoolSeat pool seat
    pub turn : 0 < (view_of seat).turns
    pub hand : IsHeld (hand_of stage) (view_of seat)
    pub fits : Fits pool seat class stage

-- what a step of an allocation came to, and the notes that it wrote into the log
pub record HasAllotted (pool : SharedPool) (old new : PoolSeat)
    (first last : Sampling) (before after : Vec Note) (size class : ℕ) (stage : Allotting)
    (result : StageStep Allotting Allotted) : Type 0
  where
    pub written : List Note
    pub log : HasWritten before after written
    pub wrote :
        let shape = pool.table.layout.shape in
        Wrote pool old new written first last
        (rest_of shape (lane_of old) size class stage) (asks_of stage)
        (rest_after shape (lane_of old) size class result)
    pub counts : AddCounts (born_in result) (map entry_of wrote.added)
    pub place : BornWithin pool size result
    pub hand : IsHeld (hand_after result) (view_of new)
    pub fits : FitsAfter pool new class result
    pub again : IsTriedAgain pool old new size class stage result written
    pub spends : Spends (view_of old) (view_of new) (left_of stage) (left_after result)
    pub asked : (n : ℕ) → (left_after result).asks + asks_of stage n ≤ (left_of stage).asks + n
