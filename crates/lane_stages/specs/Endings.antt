-- The end of a root, step by step: what is in hand at each stage, and how the law reads the rest.
use Rattle.std.specs.Prelude.{◌≡◌, ℕ, ◌/◌, ◌<◌, ⊤, false, List, [], length, map, Some}
use Rattle.std.specs.Global.{Vec}
use Rattle.pool_law.specs.declared.note.Note.{Note}
use Rattle.pool_law.specs.declared.note.Object.TheVariants.{Bin}
use Rattle.pool_law.specs.declared.run.Shape.{Shape}
use Rattle.pool_law.specs.Limits.{cached_classes}
use Rattle.pool_law.specs.declared.id.RootId.{RootId}
use Rattle.pool_law.specs.Dids as says
use Rattle.pool_law.specs.Readers.{Reader, ◌>>=◌, ◌>>◌, nothing, note, step, ending}
use Rattle.pool_law.specs.Patterns.{put_away, give_back}
use Rattle.leak_records.specs.Records.{Sampling}
use Rattle.shared_pool.specs.declared.seat.PoolSeat.{PoolSeat}
use Rattle.shared_pool.specs.SeatViews.{view_of}
use Rattle.shared_pool.specs.declared.pool.SharedPool.{SharedPool}
use Rattle.shared_pool.specs.RootNotes.{HoldsToken}
use Rattle.shared_pool.specs.Seats.{IsPoolSeat, FoundBusy}
use Rattle.lane_stages.specs.declared.retirement.Ending.{Ending}
use Rattle.lane_stages.specs.declared.retirement.Ending.TheVariants.{Root, Cache, Arena, Home}
use Rattle.lane_stages.specs.declared.stage_step.StageStep.{StageStep}
use Rattle.lane_stages.specs.declared.stage_step.StageStep.TheVariants.{More, Held, Done}
use Rattle.lane_stages.specs.Logs.{HasWritten}
use Rattle.seat_work.specs.Hands.{Hand, empty_hand, IsHeld, IsHandle, IsRegion}
use Rattle.lane_stages.specs.Budgets.{Left, notes_alone, Spends}
use Rattle.lane_stages.specs.NextNotes.{BeginsAt}
use Rattle.lane_stages.specs.Readings.{none_asked}
use Rattle.lane_stages.specs.Wrote.{Wrote}
use Rattle.lane_stages.specs.Counting.{AddCounts}
use Rattle.shared_pool.specs.Closing.{entry_of}

abbrev pub hand_of : Ending → Hand
hand_of (Root token) = record empty_hand { token = Some token.root }
hand_of (Cache region handle) =
    record empty_hand { place = Some handle.place; region = Some region.id }
hand_of (Arena region handle) =
    record empty_hand { place = Some handle.place; region = Some region.id }
hand_of (Home handle) = record empty_hand { place = Some handle.place }

abbrev pub hand_after : StageStep Ending (Unit {0}) → Hand
hand_after (More stage) = hand_of stage
hand_after (Held held stage) = hand_of stage
hand_after (Done answer) = empty_hand

-- what may still be spent on the end of a root
abbrev pub left_of : Ending → Left
left_of (Root token) = notes_alone 5
left_of (Cache region handle) = notes_alone 3
left_of (Arena region handle) = notes_alone 2
left_of (Home handle) = notes_alone 1

abbrev pub left_after : StageStep Ending (Unit {0}) → Left
left_after (More stage) = left_of stage
left_after (Held held stage) = left_of stage
left_after (Done answer) = notes_alone 0

-- the handle of a place goes home
abbrev pub goes_home : Shape → ℕ → Reader (Unit {0})
goes_home shape place = note (Bin (place / shape.handles)) (says.home place)

-- what follows the last count of a root
abbrev pub retired : Shape → RootId → Reader (Unit {0})
retired shape root = do
  region ← ending root
  step root says.vacated
  put_away region
  goes_home shape root.place

-- how a log is read from this stage on
abbrev pub rest_of : Shape → Ending → Reader (Unit {0})
rest_of shape (Root token) = retired shape token.root
rest_of shape (Cache region handle) = put_away region.id >> goes_home shape handle.place
rest_of shape (Arena region handle) = give_back region.id >> goes_home shape handle.place
rest_of shape (Home handle) = goes_home shape handle.place

-- and behind a step
abbrev pub rest_after : Shape → StageStep Ending (Unit {0}) → Reader (Unit {0})
rest_after shape (More stage) = rest_of shape stage
rest_after shape (Held held stage) = rest_of shape stage
rest_after shape (Done answer) = nothing

-- where another seat was there the same is to be tried again, nothing was noted, and the next note
-- stands at that object; else something was
abbrev pub IsTriedAgain :
    SharedPool → PoolSeat → PoolSeat → Ending → StageStep Ending (Unit {0}) → List Note → Type 0
IsTriedAgain pool old new stage (Held held again) notes =
    (again ≡ stage) × (notes ≡ []) × FoundBusy pool held.object false old new held
    × BeginsAt held.object (rest_of pool.table.layout.shape stage)
IsTriedAgain pool old new stage _ notes = 0 < length notes

-- what is in hand is the pool's
abbrev pub Fits : SharedPool → PoolSeat → Ending → Type 0
Fits pool seat (Root token) = HoldsToken seat token
Fits pool seat (Cache region handle) =
    IsHandle pool handle × IsRegion pool seat region × (region.id.class < cached_classes)
Fits pool seat (Arena region handle) = IsHandle pool handle × IsRegion pool seat region
Fits pool seat (Home handle) = IsHandle pool handle

abbrev pub FitsAfter : SharedPool → PoolSeat → StageStep Ending (Unit {0}) → Type 0
FitsAfter pool seat (More stage) = Fits pool seat stage
FitsAfter pool seat (Held held stage) = Fits pool seat stage
FitsAfter pool seat (Done answer) = ⊤

-- a seat of the pool with a turn left, and just what the stage has in hand
pub record MayEnd (pool : SharedPool) (seat : PoolSeat) (stage : Ending) : Type 0
  where
    pub seat_is : IsPoolSeat pool seat
    pub turn : 0 < (view_of seat).turns
    pub hand : IsHeld (hand_of stage) (view_of seat)
    pub fits : Fits pool seat stage

-- what a step at the end of a root came to, and the notes that it wrote into the log
pub record HasEnded (pool : SharedPool) (old new : PoolSeat)
    (before after : Vec Note) (stage : Ending) (result : StageStep Ending (Unit {0})) : Type 0
  where
    pub written : List Note
    pub log : HasWritten before after written
    pub wrote : (sampler : Sampling) →
        let shape = pool.table.layout.shape in
        Wrote pool old new written sampler sampler
        (rest_of shape stage) none_asked (rest_after shape result)
    pub counts : (sampler : Sampling) →
        AddCounts (λ root. 0) (map entry_of (wrote sampler).added)
    pub hand : IsHeld (hand_after result) (view_of new)
    pub fits : FitsAfter pool new result
    pub again : IsTriedAgain pool old new stage result written
    pub spends : Spends (view_of old) (view_of new) (left_of stage) (left_after result)
