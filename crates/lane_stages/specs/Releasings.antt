-- The parts of a composite are released: what is known at each stage, and how the law reads the
-- rest.
use Rattle.std.specs.Prelude.{◌≡◌, ℕ, ◌+◌, ◌*◌, ◌<◌, ⊤, false, List, [], ◌∷◌, ◌++◌, length, map, All, Option, Some, None, IfSome}
use Rattle.std.specs.Global.{Vec}
use Rattle.pool_law.specs.declared.id.Part.{Part}
use Rattle.pool_law.specs.declared.id.RootId.{RootId}
use Rattle.pool_law.specs.declared.note.Note.{Note}
use Rattle.pool_law.specs.declared.run.Shape.{Shape}
use Rattle.pool_law.specs.Counts.{count_of}
use Rattle.pool_law.specs.Lanes.{release_parts}
use Rattle.pool_law.specs.Readers.{ToldNotes, Log, Reader, ◌>>◌, nothing}
use Rattle.leak_records.specs.Records.{Sampling}
use Rattle.shared_pool.specs.declared.seat.PoolSeat.{PoolSeat}
use Rattle.pool_table.specs.declared.views.Entry.{Entry}
use Rattle.shared_pool.specs.SeatViews.{view_of, SameSeat}
use Rattle.shared_pool.specs.Closing.{entry_of, note_of}
use Rattle.shared_pool.specs.declared.pool.SharedPool.{SharedPool}
use Rattle.shared_pool.specs.Seats.{IsPoolSeat, FoundBusy}
use Rattle.lane_stages.specs.declared.counts.Counted.{Counted}
use Rattle.lane_stages.specs.declared.retirement.Ending.{Ending}
use Rattle.lane_stages.specs.declared.releasing.Releasing.{Releasing}
use Rattle.lane_stages.specs.declared.stage_step.StageStep.{StageStep}
use Rattle.lane_stages.specs.declared.stage_step.StageStep.TheVariants.{More, Held, Done}
use Rattle.lane_stages.specs.Budgets.{Left, notes_alone, Spends}
use Rattle.lane_stages.specs.Counting.{CountsAre, counted}
use Rattle.seat_work.specs.Hands.{Hand, empty_hand, IsHeld}
use Rattle.lane_stages.specs.Logs.{HasWritten}
use Rattle.lane_stages.specs.NextNotes.{BeginsAt}
use Rattle.seat_work.specs.Readings.{before_left, behind}
use Rattle.lane_stages.specs.Readings.{none_asked}
use Rattle.lane_stages.specs.Sampled.{AreSampled}
use Rattle.seat_work.specs.Growth.{HasMore}
use Rattle.lane_stages.specs.Endings as ending

-- ---- What is left of a root that ended, if one did.

abbrev pub hand_in : Option Ending → Hand
hand_in None = empty_hand
hand_in (Some stage) = ending.hand_of stage

abbrev pub notes_in : Option Ending → ℕ
notes_in None = 0
notes_in (Some stage) = (ending.left_of stage).notes

abbrev pub rest_in : Shape → Option Ending → Reader (Unit {0})
rest_in shape None = nothing
rest_in shape (Some stage) = ending.rest_of shape stage

-- ---- Stages.

abbrev pub hand_of : Releasing → Hand
hand_of stage = hand_in stage.ending

abbrev pub hand_after : StageStep Releasing (Unit {0}) → Hand
hand_after (More stage) = hand_of stage
hand_after (Held held stage) = hand_of stage
hand_after (Done answer) = empty_hand

-- a release notes at most six things
abbrev pub left_of : Releasing → Left
left_of stage = notes_alone (notes_in stage.ending + 6 * length stage.left.items)

abbrev pub left_after : StageStep Releasing (Unit {0}) → Left
left_after (More stage) = left_of stage
left_after (Held held stage) = left_of stage
left_after (Done answer) = notes_alone 0

-- how a log is read from this stage on
abbrev pub rest_of : Shape → Releasing → Reader (Unit {0})
rest_of shape stage = rest_in shape stage.ending >> release_parts shape stage.left.items

-- and behind a step
abbrev pub rest_after : Shape → StageStep Releasing (Unit {0}) → Reader (Unit {0})
rest_after shape (More stage) = rest_of shape stage
rest_after shape (Held held stage) = rest_of shape stage
rest_after shape (Done answer) = nothing

-- over these entries the one reading goes on as the other, of a log with these counts
abbrev pub ReadsOnWith : {A : Type 0} → List Counted → Reader A → ToldNotes → Reader A → Type 0
ReadsOnWith cs before es after =
    (log : Log) → ((root : RootId) → count_of root log.seen ≡ counted cs root) →
    before (before_left log es) ≡ after (behind log es none_asked)

-- the first of these parts of which the root is counted, and those behind it; or none is
abbrev pub NextCounted : List Counted → List Part → List Part → Option RootId → Type 0
NextCounted cs before after None = All (λ p. counted cs p.root ≡ 0) before × (after ≡ [])
NextCounted cs before after (Some root) =
    (skipped : List Part) × (part : Part)
    × (before ≡ skipped ++ part ∷ after) × All (λ p. counted cs p.root ≡ 0) skipped
    × (part.root ≡ root) × (0 < counted cs root)

-- no root of these parts is counted
abbrev pub AreUncounted : List Counted → List Part → Type 0
AreUncounted cs parts = All (λ p. counted cs p.root ≡ 0) parts

-- nothing is left to be released
abbrev pub IsOver : List Counted → Releasing → Type 0
IsOver cs stage = (stage.ending ≡ None) × AreUncounted cs stage.left.items

-- so it is where all was done
abbrev pub IsOverAt : List Counted → Releasing → StageStep Releasing (Unit {0}) → Type 0
IsOverAt cs stage (More next) = ⊤
IsOverAt cs stage (Held held again) = ⊤
IsOverAt cs stage (Done answer) = IsOver cs stage

-- what is in hand is the pool's
abbrev pub Fits : SharedPool → PoolSeat → Releasing → Type 0
Fits pool seat stage = IfSome stage.ending (ending.Fits pool seat)

abbrev pub FitsAfter : SharedPool → PoolSeat → StageStep Releasing (Unit {0}) → Type 0
FitsAfter pool seat (More stage) = Fits pool seat stage
FitsAfter pool seat (Held held stage) = Fits pool seat stage
FitsAfter pool seat (Done answer) = ⊤

-- where another seat was there the same is to be tried again, nothing was noted, and the next note
-- stands at that object; where all is done nothing was noted either; else something was
abbrev pub IsTriedAgain :
    SharedPool → PoolSeat → PoolSeat → Releasing → StageStep Releasing (Unit {0}) →
    List Note → Type 0
IsTriedAgain pool old new stage (Held held again) notes =
    (again ≡ stage) × (notes ≡ []) × FoundBusy pool held.object false old new held
    × BeginsAt held.object (rest_of pool.table.layout.shape stage)
IsTriedAgain pool old new stage (More next) notes = 0 < length notes
IsTriedAgain pool old new stage (Done answer) notes = notes ≡ []

-- a seat of the pool with just what the stage has in hand, whose counts these are, and with a turn
-- left where something may be noted
pub record MayRelease (pool : SharedPool) (seat : PoolSeat) (cs : List Counted)
    (stage : Releasing) : Type 0
  where
    pub seat_is : IsPoolSeat pool seat
    pub turn : 0 < (left_of stage).notes → 0 < (view_of seat).turns
    pub hand : IsHeld (hand_of stage) (view_of seat)
    pub fits : Fits pool seat stage
    pub counts : CountsAre cs (map entry_of (view_of seat).own.notes)

-- what a step of releasing came to, the notes that it wrote into the log, and the counts then
pub record HasReleased (pool : SharedPool) (old new : PoolSeat)
    (cs_before cs_after : List Counted) (before after : Vec Note)
    (stage : Releasing) (result : StageStep Releasing (Unit {0})) : Type 0
  where
    pub added : List Entry
    pub same : SameSeat old new
    pub seat : IsPoolSeat pool new
    pub more : HasMore (view_of old) (view_of new) added
    pub log : HasWritten before after (map note_of added)
    pub counts : CountsAre cs_after (map entry_of (view_of new).own.notes)
    pub places : length cs_after ≡ length cs_before
    pub sampled : (sampler : Sampling) → AreSampled sampler added sampler
    pub read :
        let shape = pool.table.layout.shape in
        ReadsOnWith cs_before (rest_of shape stage) (map entry_of added) (rest_after shape result)
    pub hand : IsHeld (hand_after result) (view_of new)
    pub fits : FitsAfter pool new result
    pub again : IsTriedAgain pool old new stage result (map note_of added)
    pub over : IsOverAt cs_before stage result
    pub spends : Spends (view_of old) (view_of new) (left_of stage) (left_after result)
