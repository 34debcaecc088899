-- The lanes of a trace over a pool: before they are made, and as they stand at their places.
use Rattle.std.specs.Prelude.{◌≡◌, ℕ, Bool, List, Some, Result, Ok, slice_get}
use Rattle.std.specs.Fn.{Shared}
use denote.Ref.{MutBor}
use Rattle.pool_law.specs.declared.command.Command.{Command}
use Rattle.pool_law.specs.declared.run.Shape.{Shape}
use Rattle.shared_pool.specs.declared.seat.PoolSeat.{PoolSeat}
use Rattle.shared_pool.specs.declared.pool.SharedPool.{SharedPool}
use Rattle.shared_pool.specs.SeatLanes.{lane_of}
use Rattle.shared_pool.specs.Seats.{IsPoolSeat}
use Rattle.work_table.specs.declared.machine.Stepped.{Stepped}
use Rattle.work_table.specs.declared.machine.Stepped.TheVariants.{Finished}
use Rattle.lane_core.specs.declared.lane.Lane.{Lane}
use Rattle.lane_core.specs.Lanes.{Heeds, IsLane, IsFinished, SameLane, number_of}
use Rattle.lane_core.specs.Opened.{AreFirst, IsFirstSeat}

-- the lane has number i, is one of the pool, has the commands that the trace has for lane i, and
-- heeded the gate that stops each lane at these lines
pub record RunsLane (trace : List (List Command)) (stops : ℕ → ℕ → Bool) (pool : SharedPool)
    (i : ℕ) (l : Lane) : Type 0 where
  pub number : number_of l ≡ i
  pub lane : IsLane pool l
  pub commands : slice_get trace i ≡ Some l.commands
  pub heeds : Heeds (stops i) l

-- lane i stands at place i
abbrev pub AllRun : List (List Command) → (ℕ → ℕ → Bool) → SharedPool → List Lane → Type 0
AllRun trace stops pool lanes =
    (i : ℕ) (l : Lane) → slice_get lanes i ≡ Some l → RunsLane trace stops pool i l

-- lanes of the pool
abbrev pub AreLanes : SharedPool → List Lane → Type 0
AreLanes pool lanes = (i : ℕ) (l : Lane) → slice_get lanes i ≡ Some l → IsLane pool l

-- lanes of the pool, each with its place as its number, that heeded the gate
abbrev pub AreNumbered : (ℕ → ℕ → Bool) → SharedPool → List Lane → Type 0
AreNumbered stops pool lanes =
    (i : ℕ) (l : Lane) → slice_get lanes i ≡ Some l →
    (number_of l ≡ i) × IsLane pool l × Heeds (stops i) l

-- the lane is the same one as at first, one of the pool, and heeds the gate if it did so at first
pub record HasCome (stops : ℕ → ℕ → Bool) (pool : SharedPool) (first l : Lane) : Type 0 where
  pub lane : IsLane pool l
  pub same : SameLane first l
  pub heeds : Heeds (stops (number_of first)) first → Heeds (stops (number_of first)) l

-- each call with a lane of the pool steps it: the lane has come of what it was, and where `Finished`
-- is answered it has finished
pub record StepsLanes {F E : Type 0}
    (g : Shared F (MutBor Lane × Unit {0}) (Result Stepped E × (MutBor Lane × Unit {0})))
    (f : F) (stops : ℕ → ℕ → Bool) (pool : SharedPool) : Type 0 where
  pub takes : (l : MutBor Lane) → IsLane pool l.now → g.pre f (l, tt)
  pub keeps : (old new : MutBor Lane) (r : Result Stepped E) → IsLane pool old.now →
      g.post f (old, tt) (r, (new, tt)) → HasCome stops pool old.now new.now
  pub finishes : (old new : MutBor Lane) (r : Result Stepped E) → IsLane pool old.now →
      g.post f (old, tt) (r, (new, tt)) → r ≡ Ok Finished → IsFinished new.now

-- all have finished
abbrev pub AllFinished : List Lane → Type 0
AllFinished lanes = (i : ℕ) (l : Lane) → slice_get lanes i ≡ Some l → IsFinished l

-- these commands and this seat may be made a lane with this number
pub record IsReady (pool : SharedPool) (shape : Shape) (i : ℕ) (commands : List Command)
    (seat : PoolSeat) : Type 0 where
  pub commands_are : AreFirst shape commands
  pub seat_is : IsFirstSeat pool shape commands seat
  pub number : lane_of seat ≡ i

-- each lane's commands, with the seat of its place
abbrev pub AreReady :
    SharedPool → Shape → List (List Command) → List PoolSeat → Type 0
AreReady pool shape trace seats =
    (i : ℕ) (commands : List Command) (seat : PoolSeat) →
    slice_get trace i ≡ Some commands → slice_get seats i ≡ Some seat →
    IsReady pool shape i commands seat

-- seats of the pool
abbrev pub AllOf : SharedPool → List PoolSeat → Type 0
AllOf pool seats =
    (i : ℕ) (s : PoolSeat) → slice_get seats i ≡ Some s → IsPoolSeat pool s
