-- How a lane drains its caches, step by step: what is in hand at each stage, and how the law reads
-- the rest.
use Rattle.std.specs.Prelude.{◌≡◌, ℕ, zero, suc, ◌+◌, ◌-◌, ◌*◌, ◌<◌, ◌≤◌, ⊤, false, List, [], ◌∷◌, length, map, Option, Some}
use Rattle.std.specs.Global.{Vec}
use Rattle.pool_law.specs.declared.id.Region.{Region}
use Rattle.pool_law.specs.declared.note.Did.{Did}
use Rattle.pool_law.specs.declared.note.Note.{Note}
use Rattle.pool_law.specs.Dids as says
use Rattle.pool_law.specs.Limits.{cached_classes}
use Rattle.pool_law.specs.Patterns.{give_back, sheds, drain}
use Rattle.pool_law.specs.Readers.{Reader, ◌>>◌, nothing}
use Rattle.leak_records.specs.Records.{Sampling}
use Rattle.shared_pool.specs.declared.seat.PoolSeat.{PoolSeat}
use Rattle.pool_table.specs.declared.views.SeatView.{SeatView}
use Rattle.shared_pool.specs.SeatViews.{view_of}
use Rattle.shared_pool.specs.declared.pool.SharedPool.{SharedPool}
use Rattle.shared_pool.specs.SeatLanes.{lane_of}
use Rattle.shared_pool.specs.Seats.{IsPoolSeat, FoundBusy}
use Rattle.lane_stages.specs.declared.draining.DrainKind.{DrainKind}
use Rattle.lane_stages.specs.declared.draining.DrainKind.TheVariants.{Trim, Close}
use Rattle.lane_stages.specs.declared.draining.Draining.{Draining}
use Rattle.lane_stages.specs.declared.draining.Draining.TheVariants.{Ask, Shed, Give, Done}
use Rattle.lane_stages.specs.declared.draining.Drains.{Drains}
use Rattle.lane_stages.specs.declared.draining.Drains.TheVariants.{More, Held}
use Rattle.lane_stages.specs.Logs.{HasWritten}
use Rattle.seat_work.specs.Hands.{Hand, empty_hand, IsHeld, IsRegion}
use Rattle.lane_stages.specs.Budgets.{Left, notes_alone, Spends, out_of, all_out}
use Rattle.lane_stages.specs.NextNotes.{BeginsAt}
use Rattle.lane_stages.specs.Readings.{none_asked}
use Rattle.lane_stages.specs.Wrote.{Wrote}
use Rattle.lane_stages.specs.Counting.{AddCounts}
use Rattle.shared_pool.specs.Closing.{entry_of}

-- what a cache notes that is asked for a quota
abbrev pub quota_note : DrainKind → ℕ → Did
quota_note Trim quota = Did.Trim quota
quota_note Close quota = Did.Close quota

-- the quota of such a note
abbrev pub quota_in : DrainKind → Did → Option ℕ
quota_in Trim did = says.trim did
quota_in Close did = says.close did

-- how many caches are closed, once so many were asked
abbrev pub closed_by : DrainKind → ℕ → ℕ
closed_by Trim asked = 0
closed_by Close asked = asked

-- ---- What is in hand.

-- once so many caches were asked, with so many regions of the last of these to be shed
abbrev pub asked_hand : DrainKind → ℕ → ℕ → Hand
asked_hand kind asked quota =
    record empty_hand { closed = closed_by kind asked; drained = asked; quota = quota }

abbrev pub hand_of : DrainKind → Draining → Hand
hand_of kind (Ask class) = asked_hand kind class 0
hand_of kind (Shed class left) = asked_hand kind (class + 1) left
hand_of kind (Give class left region) =
    record (asked_hand kind (class + 1) left) { region = Some region.id }
hand_of kind Done = asked_hand kind cached_classes 0

abbrev pub hand_after : DrainKind → Drains → Hand
hand_after kind (More stage) = hand_of kind stage
hand_after kind (Held held stage) = hand_of kind stage

-- this comes when so many regions of the class are left to shed
abbrev pub IsNext : ℕ → ℕ → Draining → Type 0
IsNext class left (Ask other) = (other ≡ class + 1) × (left ≡ 0) × (other < cached_classes)
IsNext class left (Shed other more) = (other ≡ class) × (more ≡ left) × (0 < left)
IsNext class left (Give other more region) = ⊥
IsNext class left Done = (left ≡ 0) × (class + 1 ≡ cached_classes)

-- ---- What may still be spent: a note for each cache that is to be asked, and two for each region
-- that may be shed.

abbrev pub left_of : Draining → SeatView → Left
left_of (Ask class) v = notes_alone (cached_classes - class + 2 * all_out v)
left_of (Shed class left) v = notes_alone (cached_classes - (class + 1) + 2 * all_out v)
left_of (Give class left region) v =
    notes_alone (cached_classes - (class + 1) + 2 * all_out v - 1)
left_of Done v = notes_alone (2 * all_out v)

abbrev pub left_after : Drains → SeatView → Left
left_after (More stage) v = left_of stage v
left_after (Held held stage) v = left_of stage v

-- ---- How the law reads the rest.

-- so many classes from this one on
abbrev pub classes_at : ℕ → ℕ → List ℕ
classes_at class zero = []
classes_at class (suc n) = class ∷ classes_at (class + 1) n

-- the cached classes from this one on
abbrev pub classes_from : ℕ → List ℕ
classes_from class = classes_at class (cached_classes - class)

-- so many regions of the class are shed, and the caches of these classes drained
abbrev pub sheds_then : DrainKind → ℕ → ℕ → ℕ → List ℕ → Reader (Unit {0})
sheds_then kind lane class left classes =
    sheds lane class left >> drain lane (quota_in kind) classes

-- from this stage on
abbrev pub rest_of : DrainKind → ℕ → Draining → Reader (Unit {0})
rest_of kind lane (Ask class) = drain lane (quota_in kind) (classes_from class)
rest_of kind lane (Shed class left) = sheds_then kind lane class left (classes_from (class + 1))
rest_of kind lane (Give class left region) =
    give_back region.id >> sheds_then kind lane class left (classes_from (class + 1))
rest_of kind lane Done = nothing

-- and behind a step
abbrev pub rest_after : DrainKind → ℕ → Drains → Reader (Unit {0})
rest_after kind lane (More stage) = rest_of kind lane stage
rest_after kind lane (Held held stage) = rest_of kind lane stage

-- with so many regions left to shed, the rest is what this stage reads
abbrev pub IsReadNext : DrainKind → ℕ → ℕ → Draining → Type 0
IsReadNext kind class left next =
    (lane : ℕ) → sheds_then kind lane class left (classes_from (class + 1)) ≡ rest_of kind lane next

-- where another seat was there the same is to be tried again, nothing was noted, and the next note
-- stands at that object; else something was
abbrev pub IsTriedAgain :
    SharedPool → PoolSeat → PoolSeat → DrainKind → Draining → Drains → List Note → Type 0
IsTriedAgain pool old new kind stage (Held held again) notes =
    (again ≡ stage) × (notes ≡ []) × FoundBusy pool held.object false old new held
    × BeginsAt held.object (rest_of kind (lane_of old) stage)
IsTriedAgain pool old new kind stage _ notes = 0 < length notes

-- a region of the class that the seat's lane took from its arena
abbrev pub IsShed : SharedPool → PoolSeat → ℕ → Region → Type 0
IsShed pool seat class r =
    IsRegion pool seat r × (r.id.owner ≡ lane_of seat) × (r.id.class ≡ class)

-- no more regions are to be shed than the seat took of the class and didn't give
abbrev pub Fits : SharedPool → PoolSeat → Draining → Type 0
Fits pool seat (Ask class) = class < cached_classes
Fits pool seat (Shed class left) =
    (class < cached_classes) × (0 < left) × (left ≤ out_of class (view_of seat))
Fits pool seat (Give class left region) =
    (class < cached_classes) × IsShed pool seat class region
    × (left < out_of class (view_of seat))
Fits pool seat Done = ⊤

abbrev pub FitsAfter : SharedPool → PoolSeat → Drains → Type 0
FitsAfter pool seat (More stage) = Fits pool seat stage
FitsAfter pool seat (Held held stage) = Fits pool seat stage

-- a seat of the pool with a turn left, and just what the stage has in hand
pub record MayDrain
    (pool : SharedPool) (seat : PoolSeat) (kind : DrainKind) (stage : Draining) : Type 0
  where
    pub seat_is : IsPoolSeat pool seat
    pub turn : 0 < (view_of seat).turns
    pub hand : IsHeld (hand_of kind stage) (view_of seat)
    pub fits : Fits pool seat stage

-- what a step of the draining came to, and the notes that it wrote into the log
pub record HasDrained (pool : SharedPool) (old new : PoolSeat)
    (before after : Vec Note) (kind : DrainKind) (stage : Draining) (result : Drains) : Type 0
  where
    pub written : List Note
    pub log : HasWritten before after written
    pub wrote : (sampler : Sampling) →
        Wrote pool old new written sampler sampler
        (rest_of kind (lane_of old) stage) none_asked (rest_after kind (lane_of old) result)
    pub counts : (sampler : Sampling) →
        AddCounts (λ root. 0) (map entry_of (wrote sampler).added)
    pub hand : IsHeld (hand_after kind result) (view_of new)
    pub fits : FitsAfter pool new result
    pub again : IsTriedAgain pool old new kind stage result written
    pub spends :
        Spends (view_of old) (view_of new)
        (left_of stage (view_of old)) (left_after result (view_of new))
