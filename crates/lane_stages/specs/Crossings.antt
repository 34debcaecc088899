-- A range of a composite, part by part: what is known at each stage, and how the law reads the
-- rest.
use Rattle.std.specs.Prelude.{◌≡◌, ℕ, ◌+◌, ◌<◌, ◌≤◌, ⊤, false, List, [], ◌∷◌, ◌++◌, length, map, All, Option, Some, None, vec_capacity}
use Rattle.std.specs.Global.{Vec}
use Rattle.pool_law.specs.declared.id.Part.{Part}
use Rattle.pool_law.specs.declared.note.Note.{Note}
use Rattle.pool_law.specs.Lanes.{set_parts, get_parts}
use Rattle.pool_law.specs.Readers.{Reader, ◌>>=◌, ◌>>◌, give}
use Rattle.leak_records.specs.Records.{Sampling}
use Rattle.pool_table.specs.Capacities.{knows_of}
use Rattle.pool_table.specs.Counts.{HasCount}
use Rattle.shared_pool.specs.declared.seat.PoolSeat.{PoolSeat}
use Rattle.pool_table.specs.declared.views.SeatView.{SeatView}
use Rattle.shared_pool.specs.SeatViews.{view_of}
use Rattle.shared_pool.specs.Closing.{entry_of}
use Rattle.shared_pool.specs.declared.pool.SharedPool.{SharedPool}
use Rattle.shared_pool.specs.Seats.{IsPoolSeat, FoundBusy}
use Rattle.lane_stages.specs.declared.counts.Counted.{Counted}
use Rattle.lane_stages.specs.declared.crossing.Stretch.{Stretch}
use Rattle.lane_stages.specs.declared.crossing.Crossing.{Crossing}
use Rattle.lane_stages.specs.declared.crossing.Crossing.TheVariants.{Set, Get}
use Rattle.lane_stages.specs.declared.crossing.Crossed.{Crossed}
use Rattle.lane_stages.specs.declared.crossing.Crossed.TheVariants.{Set as WasSet, Got as WasGot}
use Rattle.lane_stages.specs.declared.stage_step.StageStep.{StageStep}
use Rattle.lane_stages.specs.declared.stage_step.StageStep.TheVariants.{More, Held, Done}
use Rattle.lane_stages.specs.Budgets.{Left, notes_alone, Spends}
use Rattle.lane_stages.specs.Counting.{CountsAre}
use Rattle.seat_work.specs.Hands.{empty_hand, IsHeld}
use Rattle.lane_stages.specs.Logs.{HasWritten}
use Rattle.lane_stages.specs.NextNotes.{BeginsAt}
use Rattle.lane_stages.specs.Readings.{none_asked}
use Rattle.lane_stages.specs.Wrote.{Wrote}

-- the parts of these stretches, and the bytes that they have, one behind the other
abbrev pub parts_of : List Stretch → List Part
parts_of left = map (λ s. s.part) left

abbrev pub bytes_of : List Stretch → List ℕ
bytes_of [] = []
bytes_of (s ∷ left) = s.bytes.items ++ bytes_of left

-- the first of a list and those behind it, or none
abbrev pub NextOf : {A : Type 0} → List A → Option (A × Vec A) → Type 0
NextOf left None = left ≡ []
NextOf left (Some (first, later)) = left ≡ first ∷ later.items

-- the stretches that are still to be done
abbrev pub stretches : Crossing → List Stretch
stretches (Set first later) = first ∷ later.items
stretches (Get first later got) = first ∷ later.items

-- one note for each of them
abbrev pub left_of : Crossing → Left
left_of stage = notes_alone (length (stretches stage))

abbrev pub left_after : StageStep Crossing Crossed → Left
left_after (More stage) = left_of stage
left_after (Held held stage) = left_of stage
left_after (Done answer) = notes_alone 0

-- how a log is read from this stage on, to the bytes that are got in all
abbrev pub rest_of : Crossing → Reader (List ℕ)
rest_of (Set first later) =
    let left = first ∷ later.items in set_parts (parts_of left) (bytes_of left) >> give []
rest_of (Get first later got) =
    get_parts (parts_of (first ∷ later.items)) >>= (λ more. give (got.items ++ more))

-- and behind a step
abbrev pub rest_after : StageStep Crossing Crossed → Reader (List ℕ)
rest_after (More stage) = rest_of stage
rest_after (Held held stage) = rest_of stage
rest_after (Done WasSet) = give []
rest_after (Done (WasGot got)) = give got.items

-- a part of a root that the view counts and knows so much of, with memory for just its bytes
pub record IsWithin (v : SeatView) (s : Stretch) : Type 0 where
  pub counts : HasCount s.part.root v
  pub inside : s.part.offset + s.part.len ≤ knows_of s.part.root v
  pub bytes : length s.bytes.items ≡ s.part.len

-- there is room for what is still to be got
abbrev pub HasRoom : Crossing → Type 0
HasRoom (Set first later) = ⊤
HasRoom (Get first later got) =
    length got.items + length (bytes_of (first ∷ later.items)) ≤ vec_capacity got

-- the range lies in roots that the view counts
abbrev pub Fits : SeatView → Crossing → Type 0
Fits v stage = All (IsWithin v) (stretches stage) × HasRoom stage

abbrev pub FitsAfter : SeatView → StageStep Crossing Crossed → Type 0
FitsAfter v (More stage) = Fits v stage
FitsAfter v (Held held stage) = Fits v stage
FitsAfter v (Done answer) = ⊤

-- parts that are set come to all being set, and parts that are got to their bytes
abbrev pub IsAlike : Crossing → StageStep Crossing Crossed → Type 0
IsAlike (Set first later) (More (Set next left)) = ⊤
IsAlike (Set first later) (Held held (Set next left)) = ⊤
IsAlike (Set first later) (Done WasSet) = ⊤
IsAlike (Get first later got) (More (Get next left more)) = ⊤
IsAlike (Get first later got) (Held held (Get next left more)) = ⊤
IsAlike (Get first later got) (Done (WasGot all)) = ⊤
IsAlike _ _ = ⊥

-- where another seat was there the same is to be tried again, nothing was noted, and the next note
-- stands at that object; else something was
abbrev pub IsTriedAgain :
    SharedPool → PoolSeat → PoolSeat → Crossing → StageStep Crossing Crossed → List Note → Type 0
IsTriedAgain pool old new stage (Held held again) notes =
    (again ≡ stage) × (notes ≡ []) × FoundBusy pool held.object false old new held
    × BeginsAt held.object (rest_of stage)
IsTriedAgain pool old new stage _ notes = 0 < length notes

-- a seat of the pool with a turn left and nothing in hand, and a range that it may reach
pub record MayCross (pool : SharedPool) (seat : PoolSeat) (stage : Crossing) : Type 0
  where
    pub seat_is : IsPoolSeat pool seat
    pub turn : 0 < (view_of seat).turns
    pub hand : IsHeld empty_hand (view_of seat)
    pub fits : Fits (view_of seat) stage

-- what a step over a range came to, and the note that it wrote into the log
pub record HasCrossed (pool : SharedPool) (old new : PoolSeat)
    (before after : Vec Note) (stage : Crossing) (result : StageStep Crossing Crossed) : Type 0
  where
    pub written : List Note
    pub log : HasWritten before after written
    pub wrote : (sampler : Sampling) →
        Wrote pool old new written sampler sampler
        (rest_of stage) none_asked (rest_after result)
    pub counts : (cs : List Counted) → CountsAre cs (map entry_of (view_of old).own.notes) →
        CountsAre cs (map entry_of (view_of new).own.notes)
    pub hand : IsHeld empty_hand (view_of new)
    pub fits : FitsAfter (view_of new) result
    pub alike : IsAlike stage result
    pub again : IsTriedAgain pool old new stage result written
    pub spends : Spends (view_of old) (view_of new) (left_of stage) (left_after result)
