-- A root is asked for capacity, step by step: what is in hand at each stage, and how the law reads
-- the rest of it.
use Rattle.std.specs.Prelude.{◌≡◌, ℕ, ◌+◌, ◌<◌, ◌≤◌, ⊤, false, if◌then◌else◌, List, [], length, map, Some, Result, Ok, Err}
use Rattle.std.specs.Global.{Vec}
use Rattle.pool_law.specs.declared.id.Region.{Region}
use Rattle.pool_law.specs.declared.id.RootId.{RootId}
use Rattle.pool_law.specs.declared.note.Note.{Note}
use Rattle.pool_law.specs.declared.run.Shape.{Shape}
use Rattle.pool_law.specs.declared.run.Reply.{Reply}
use Rattle.pool_law.specs.Limits.{cached_classes, has_cache}
use Rattle.pool_law.specs.Patterns.{ask_arena, give_back, grow_with, obtain, put_away, regrow}
use Rattle.pool_law.specs.Readers.{Reader, ◌>>=◌, ◌>>◌, give}
use Rattle.pool_law.specs.Views.{most_capacity}
use Rattle.leak_records.specs.Records.{Sampling}
use Rattle.pool_table.specs.declared.views.SeatView.{SeatView}
use Rattle.pool_table.specs.Capacities.{knows_of}
use Rattle.pool_table.specs.Counts.{HasCount}
use Rattle.shared_pool.specs.declared.seat.PoolSeat.{PoolSeat}
use Rattle.shared_pool.specs.declared.pool.SharedPool.{SharedPool}
use Rattle.shared_pool.specs.Closing.{entry_of}
use Rattle.shared_pool.specs.SeatLanes.{lane_of}
use Rattle.shared_pool.specs.SeatViews.{view_of}
use Rattle.shared_pool.specs.Seats.{IsPoolSeat, FoundBusy}
use Rattle.seat_work.specs.Hands.{Hand, empty_hand, IsHeld, IsRegion}
use Rattle.lane_stages.specs.declared.counts.Counted.{Counted}
use Rattle.lane_stages.specs.declared.growing.Growing.{Growing}
use Rattle.lane_stages.specs.declared.growing.Growing.TheVariants.{Ask, Cache, Arena, Grow, Put, Give}
use Rattle.lane_stages.specs.declared.growing.Regrown.{Regrown}
use Rattle.lane_stages.specs.declared.growing.Regrown.TheVariants.{Has, Full}
use Rattle.lane_stages.specs.declared.stage_step.StageStep.{StageStep}
use Rattle.lane_stages.specs.declared.stage_step.StageStep.TheVariants.{More, Held, Done}
use Rattle.lane_stages.specs.Allotments.{left_with}
use Rattle.lane_stages.specs.Budgets.{Left, notes_alone, Spends}
use Rattle.lane_stages.specs.Counting.{CountsAre}
use Rattle.lane_stages.specs.Logs.{HasWritten}
use Rattle.lane_stages.specs.NextNotes.{BeginsAt}
use Rattle.lane_stages.specs.Readings.{none_asked, one_asked}
use Rattle.lane_stages.specs.Wrote.{Wrote}

-- where a region of the class is asked for first
abbrev pub obtaining : ℕ → Growing
obtaining class = if has_cache class then Cache else Arena

-- where a region that is left over goes first
abbrev pub leaving : ℕ → Region → Growing
leaving capacity region =
    if has_cache region.id.class then Put capacity region else Give capacity region

abbrev pub hand_of : Growing → Hand
hand_of Ask = empty_hand
hand_of Cache = empty_hand
hand_of Arena = empty_hand
hand_of (Grow region) = record empty_hand { region = Some region.id }
hand_of (Put capacity region) = record empty_hand { region = Some region.id }
hand_of (Give capacity region) = record empty_hand { region = Some region.id }

abbrev pub hand_after : StageStep Growing Regrown → Hand
hand_after (More stage) = hand_of stage
hand_after (Held held stage) = hand_of stage
hand_after (Done answer) = empty_hand

-- what may still be spent on it
abbrev pub left_of : Growing → Left
left_of Ask = left_with 6 1 1 0
left_of Cache = left_with 5 1 1 0
left_of Arena = left_with 4 0 1 0
left_of (Grow region) = left_with 3 0 0 0
left_of (Put capacity region) = left_with 2 0 0 0
left_of (Give capacity region) = left_with 1 0 0 0

abbrev pub left_after : StageStep Growing Regrown → Left
left_after (More stage) = left_of stage
left_after (Held held stage) = left_of stage
left_after (Done answer) = notes_alone 0

-- how a log is read from this stage on, of a root that is asked for this size, of this class
abbrev pub rest_of : Shape → ℕ → RootId → ℕ → ℕ → Growing → Reader (Result ℕ Reply)
rest_of shape lane root size class Ask = regrow shape lane root size
rest_of shape lane root size class Cache = obtain shape lane class >>= grow_with root size
rest_of shape lane root size class Arena = ask_arena shape lane class >>= grow_with root size
rest_of shape lane root size class (Grow region) = grow_with root size (Some region.id)
rest_of shape lane root size class (Put capacity region) =
    put_away region.id >> give (Ok capacity)
rest_of shape lane root size class (Give capacity region) =
    give_back region.id >> give (Ok capacity)

-- and behind a step
abbrev pub rest_after :
    Shape → ℕ → RootId → ℕ → ℕ → StageStep Growing Regrown → Reader (Result ℕ Reply)
rest_after shape lane root size class (More stage) = rest_of shape lane root size class stage
rest_after shape lane root size class (Held held stage) = rest_of shape lane root size class stage
rest_after shape lane root size class (Done (Has capacity)) = give (Ok capacity)
rest_after shape lane root size class (Done Full) = give (Err Reply.Full)

-- the step at this stage asks a cache, or it doesn't
abbrev pub asks_of : Growing → ℕ → ℕ
asks_of Cache = one_asked
asks_of _ = none_asked

-- where another seat was there the same is to be tried again, nothing was noted, and the next note
-- stands at that object; else something was
abbrev pub IsTriedAgain :
    SharedPool → PoolSeat → PoolSeat → RootId → ℕ → ℕ → Growing → StageStep Growing Regrown →
    List Note → Type 0
IsTriedAgain pool old new root size class stage (Held held again) notes =
    (again ≡ stage) × (notes ≡ []) × FoundBusy pool held.object false old new held
    × BeginsAt held.object (rest_of pool.table.layout.shape (lane_of old) root size class stage)
IsTriedAgain pool old new root size class stage _ notes = 0 < length notes

-- the root has this capacity: as much as was asked, no more than a root may have, and just what the
-- view knows of it
pub record Knows (root : RootId) (size capacity : ℕ) (v : SeatView) : Type 0 where
  pub enough : size ≤ capacity
  pub most : capacity ≤ most_capacity
  pub known : knows_of root v ≡ capacity

-- the root is counted while it is asked; what is in hand is the pool's: a region to grow into is of
-- the class, and one is left over once the root has its capacity
abbrev pub Fits : SharedPool → PoolSeat → RootId → ℕ → ℕ → Growing → Type 0
Fits pool seat root size class Ask = HasCount root (view_of seat)
Fits pool seat root size class Cache = HasCount root (view_of seat) × (class < cached_classes)
Fits pool seat root size class Arena = HasCount root (view_of seat)
Fits pool seat root size class (Grow region) =
    HasCount root (view_of seat) × IsRegion pool seat region × (region.id.class ≡ class)
Fits pool seat root size class (Put capacity region) =
    IsRegion pool seat region × (region.id.class < cached_classes)
    × Knows root size capacity (view_of seat)
Fits pool seat root size class (Give capacity region) =
    IsRegion pool seat region × Knows root size capacity (view_of seat)

abbrev pub FitsAfter : SharedPool → PoolSeat → RootId → ℕ → ℕ → StageStep Growing Regrown → Type 0
FitsAfter pool seat root size class (More stage) = Fits pool seat root size class stage
FitsAfter pool seat root size class (Held held stage) = Fits pool seat root size class stage
FitsAfter pool seat root size class (Done (Has capacity)) = Knows root size capacity (view_of seat)
FitsAfter pool seat root size class (Done Full) = ⊤

-- a seat of the pool with a turn left, and just what the stage has in hand
pub record MayGrow (pool : SharedPool) (seat : PoolSeat) (root : RootId) (size class : ℕ)
    (stage : Growing) : Type 0
  where
    pub seat_is : IsPoolSeat pool seat
    pub turn : 0 < (view_of seat).turns
    pub hand : IsHeld (hand_of stage) (view_of seat)
    pub fits : Fits pool seat root size class stage

-- what a step of that came to, and the note that it wrote into the log; each root is counted as often
-- as before
pub record HasGrown (pool : SharedPool) (old new : PoolSeat)
    (before after : Vec Note) (root : RootId) (size class : ℕ) (stage : Growing)
    (result : StageStep Growing Regrown) : Type 0
  where
    pub written : List Note
    pub log : HasWritten before after written
    pub wrote : (sampler : Sampling) →
        let shape = pool.table.layout.shape in
        Wrote pool old new written sampler sampler
        (rest_of shape (lane_of old) root size class stage) (asks_of stage)
        (rest_after shape (lane_of old) root size class result)
    pub counts : (cs : List Counted) → CountsAre cs (map entry_of (view_of old).own.notes) →
        CountsAre cs (map entry_of (view_of new).own.notes)
    pub hand : IsHeld (hand_after result) (view_of new)
    pub fits : FitsAfter pool new root size class result
    pub again : IsTriedAgain pool old new root size class stage result written
    pub spends : Spends (view_of old) (view_of new) (left_of stage) (left_after result)
    pub asked : (n : ℕ) → (left_after result).asks + asks_of stage n ≤ (left_of stage).asks + n
