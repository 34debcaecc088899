-- Copying a composite to a root of its own: what is known at each stage, and how the law reads the
-- rest.
use Rattle.std.specs.Prelude.{◌≡◌, ◌+◌, ◌*◌, ◌<◌, ◌≤◌, ⊤, false, List, [], ◌∷◌, length, map, All}
use Rattle.std.specs.Global.{Vec}
use Rattle.pool_law.specs.declared.id.Part.{Part}
use Rattle.pool_law.specs.declared.note.Note.{Note}
use Rattle.pool_law.specs.Composites.{size_of}
use Rattle.pool_law.specs.Dids as says
use Rattle.pool_law.specs.Lanes.{copy_parts}
use Rattle.pool_law.specs.Readers.{Reader, ◌>>◌, nothing, access}
use Rattle.leak_records.specs.Records.{Sampling}
use Rattle.pool_table.specs.Capacities.{knows_of}
use Rattle.pool_table.specs.Counts.{HasCount}
use Rattle.shared_pool.specs.declared.seat.PoolSeat.{PoolSeat}
use Rattle.pool_table.specs.declared.views.SeatView.{SeatView}
use Rattle.shared_pool.specs.SeatViews.{view_of}
use Rattle.shared_pool.specs.Closing.{entry_of}
use Rattle.shared_pool.specs.declared.pool.SharedPool.{SharedPool}
use Rattle.shared_pool.specs.Seats.{IsPoolSeat, FoundBusy}
use Rattle.lane_stages.specs.declared.counts.Counted.{Counted}
use Rattle.lane_stages.specs.declared.copying.Transfer.{Transfer}
use Rattle.lane_stages.specs.declared.copying.Copying.{Copying}
use Rattle.lane_stages.specs.declared.copying.Copying.TheVariants.{Get, Set}
use Rattle.lane_stages.specs.declared.stage_step.StageStep.{StageStep}
use Rattle.lane_stages.specs.declared.stage_step.StageStep.TheVariants.{More, Held, Done}
use Rattle.lane_stages.specs.Budgets.{Left, notes_alone, Spends}
use Rattle.lane_stages.specs.Counting.{CountsAre}
use Rattle.seat_work.specs.Hands.{empty_hand, IsHeld}
use Rattle.lane_stages.specs.Logs.{HasWritten}
use Rattle.lane_stages.specs.NextNotes.{BeginsAt}
use Rattle.lane_stages.specs.Readings.{none_asked}
use Rattle.lane_stages.specs.Wrote.{Wrote}

-- the parts that are to be copied
abbrev pub parts_of : List Transfer → List Part
parts_of left = map (λ t. t.part) left

-- two notes for each part, and one for a part that was got
abbrev pub left_of : Copying → Left
left_of (Get root at first later) = notes_alone (2 + 2 * length later.items)
left_of (Set root at bytes later) = notes_alone (1 + 2 * length later.items)

abbrev pub left_after : StageStep Copying (Unit {0}) → Left
left_after (More stage) = left_of stage
left_after (Held held stage) = left_of stage
left_after (Done answer) = notes_alone 0

-- how a log is read from this stage on
abbrev pub rest_of : Copying → Reader (Unit {0})
rest_of (Get root at first later) = copy_parts root at (parts_of (first ∷ later.items))
rest_of (Set root at bytes later) =
    access root (says.set at bytes.items)
    >> copy_parts root (at + length bytes.items) (parts_of later.items)

-- and behind a step
abbrev pub rest_after : StageStep Copying (Unit {0}) → Reader (Unit {0})
rest_after (More stage) = rest_of stage
rest_after (Held held stage) = rest_of stage
rest_after (Done answer) = nothing

-- a part of a root that the view counts and knows so much of, with memory for its bytes twice
pub record IsWithin (v : SeatView) (t : Transfer) : Type 0 where
  pub counts : HasCount t.part.root v
  pub inside : t.part.offset + t.part.len ≤ knows_of t.part.root v
  pub got : length t.got.items ≡ t.part.len
  pub set : length t.set.items ≡ t.part.len

-- the parts lie in roots that the view counts, and fit behind the index into the new root, which
-- it counts too
abbrev pub Fits : SeatView → Copying → Type 0
Fits v (Get root at first later) =
    let left = first ∷ later.items in
    HasCount root v × All (IsWithin v) left × (at + size_of (parts_of left) ≤ root.capacity)
Fits v (Set root at bytes later) =
    HasCount root v × All (IsWithin v) later.items
    × (at + length bytes.items + size_of (parts_of later.items) ≤ root.capacity)

abbrev pub FitsAfter : SeatView → StageStep Copying (Unit {0}) → Type 0
FitsAfter v (More stage) = Fits v stage
FitsAfter v (Held held stage) = Fits v stage
FitsAfter v (Done answer) = ⊤

-- where another seat was there the same is to be tried again, nothing was noted, and the next note
-- stands at that object; else something was
abbrev pub IsTriedAgain :
    SharedPool → PoolSeat → PoolSeat → Copying → StageStep Copying (Unit {0}) → List Note → Type 0
IsTriedAgain pool old new stage (Held held again) notes =
    (again ≡ stage) × (notes ≡ []) × FoundBusy pool held.object false old new held
    × BeginsAt held.object (rest_of stage)
IsTriedAgain pool old new stage _ notes = 0 < length notes

-- a seat of the pool with a turn left and nothing in hand, and parts that it may copy
pub record MayCopy (pool : SharedPool) (seat : PoolSeat) (stage : Copying) : Type 0
  where
    pub seat_is : IsPoolSeat pool seat
    pub turn : 0 < (view_of seat).turns
    pub hand : IsHeld empty_hand (view_of seat)
    pub fits : Fits (view_of seat) stage

-- what a step of copying came to, and the note that it wrote into the log
pub record HasCopied (pool : SharedPool) (old new : PoolSeat)
    (before after : Vec Note) (stage : Copying) (result : StageStep Copying (Unit {0})) : Type 0
  where
    pub written : List Note
    pub log : HasWritten before after written
    pub wrote : (sampler : Sampling) →
        Wrote pool old new written sampler sampler
        (rest_of stage) none_asked (rest_after result)
    pub counts : (cs : List Counted) → CountsAre cs (map entry_of (view_of old).own.notes) →
        CountsAre cs (map entry_of (view_of new).own.notes)
    pub hand : IsHeld empty_hand (view_of new)
    pub fits : FitsAfter (view_of new) result
    pub again : IsTriedAgain pool old new stage result written
    pub spends : Spends (view_of old) (view_of new) (left_of stage) (left_after result)
