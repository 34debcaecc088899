-- A run that was played: it is legal, and what was sent is seen in order.
use Rattle.std.specs.Prelude.{◌≡◌, ◌↔◌, ℕ, ◌+◌, ◌<◌, ◌≤◌, Bool, true, List, length, map, HoldsAt, Some, slice_get, vec_capacity}
use Rattle.pool_law.specs.declared.command.Command.{Command}
use Rattle.pool_law.specs.declared.run.LaneLog.{LaneLog}
use Rattle.pool_law.specs.declared.run.Reply.{Reply}
use Rattle.pool_law.specs.declared.run.Reply.TheVariants.{Stopped}
use Rattle.pool_law.specs.declared.run.Run.{Run}
use Rattle.pool_law.specs.declared.run.Shape.{Shape}
use Rattle.pool_law.specs.LaneLaw.{replies_in}
use Rattle.pool_law.specs.Legal.{IsLegal, logs_of, replies_of}
use Rattle.run_order.specs.HandOver.{IsHandedOver}
use Rattle.run_order.specs.Order.{InOneOrder}
use Rattle.shared_pool.specs.declared.pool.SharedPool.{SharedPool}
use Rattle.lane_core.specs.declared.lane.Lane.{Lane}
use Rattle.lane_core.specs.declared.played.Parted.{Parted}
use Rattle.lane_core.specs.Lanes.{IsLane, IsFinished, number_of}

-- a legal run, in which what was sent is seen in order, and all steps of all lanes stand in one
-- order, in which each fits those before it
pub record IsPlayed (run : Run) : Type 0 where
  pub legal : IsLegal run
  pub handed_over : IsHandedOver (logs_of run)
  pub one_order : InOneOrder (logs_of run)

-- a lane of the pool that has finished, with this number
pub record IsFinishedLane (pool : SharedPool) (number : ℕ) (l : Lane) : Type 0 where
  pub lane : IsLane pool l
  pub number_is : number_of l ≡ number
  pub finished : IsFinished l

-- all lanes of the pool, in order
pub record AreFinished (pool : SharedPool) (lanes : List Lane) : Type 0 where
  pub many : length lanes ≡ pool.table.layout.shape.lanes
  pub each : (k : ℕ) → k < pool.table.layout.shape.lanes →
      HoldsAt (IsFinishedLane pool k) lanes k

-- the log that a lane wrote
abbrev pub log_written : Lane → LaneLog
log_written l = record { replies = l.context.replies.items; notes = l.context.notes.items }

-- the run is that of these lanes
pub record IsRunOf (shape : Shape) (lanes : List Lane) (run : Run) : Type 0 where
  pub shape_is : run.shape ≡ shape
  pub trace : run.trace.lanes ≡ map (λ l. l.commands) lanes
  pub logs : run.logs ≡ map log_written lanes

-- a reply is `stopped` exactly where this gate stops the lane at its line or at an earlier one
abbrev pub StopsAsAsked : (ℕ → Bool) → List Reply → Type 0
StopsAsAsked stops replies =
    (line : ℕ) (reply : Reply) → slice_get replies line ≡ Some reply →
    (reply ≡ Stopped) ↔ ((earlier : ℕ) × (earlier ≤ line) × (stops earlier ≡ true))

-- in a run, of each lane
abbrev pub IsHeeded : (ℕ → ℕ → Bool) → Run → Type 0
IsHeeded stops run =
    (lane : ℕ) → lane < run.shape.lanes →
    StopsAsAsked (stops lane) (replies_in (replies_of run lane))

-- just these commands and logs
pub record ArePartedAs (commands : List (List Command)) (logs : List LaneLog) (p : Parted) : Type 0
  where
    pub commands_are : p.commands.items ≡ commands
    pub logs_are : p.logs.items ≡ logs

-- there is room for the commands and the logs of so many lanes more
pub record HasRoom (count : ℕ) (p : Parted) : Type 0 where
  pub commands : length p.commands.items + count ≤ vec_capacity p.commands
  pub logs : length p.logs.items + count ≤ vec_capacity p.logs

-- the lane keeps room for so many seats
abbrev pub HasSpare : ℕ → Lane → Type 0
HasSpare count l = count ≤ vec_capacity l.spare.seats
