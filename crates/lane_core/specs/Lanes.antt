-- A lane of a pool: its log so far is the law's for its commands so far.
use Rattle.std.specs.Prelude.{◌≡◌, ℕ, ◌+◌, ◌*◌, ◌/◌, ◌<◌, ◌≤◌, ⊤, Bool, true, false, MatchBool, List, [], ◌∷◌, ◌++◌, length, take, drop, sum, All, Some, None, vec_capacity}
use Rattle.std.specs.List.{list_any}
use Rattle.pool_law.specs.declared.command.Command.{Command}
use Rattle.pool_law.specs.declared.note.Note.{Note}
use Rattle.pool_law.specs.declared.run.Answered.{Answered}
use Rattle.pool_law.specs.declared.run.Shape.{Shape}
use Rattle.pool_law.specs.Bounds.{composes}
use Rattle.pool_law.specs.Limits.{cached_classes, IsShape}
use Rattle.pool_law.specs.Legal.{AreCommands}
use Rattle.pool_law.specs.LaneLaw.{sweep_period, lane_run, stopped_run, before_stop, pieces, note_counts, replies_in}
use Rattle.pool_law.specs.LaneStates.{LaneState, new_lane, log_at}
use Rattle.pool_law.specs.Lanes.{turn}
use Rattle.pool_law.specs.Names.{Names}
use Rattle.pool_law.specs.Patterns.{closing}
use Rattle.pool_law.specs.Readers.{ToldNotes, Reader}
use Rattle.shared_pool.specs.declared.seat.PoolSeat.{PoolSeat}
use Rattle.pool_table.specs.declared.views.SeatView.{SeatView}
use Rattle.shared_pool.specs.SeatViews.{view_of}
use Rattle.shared_pool.specs.declared.pool.SharedPool.{SharedPool}
use Rattle.shared_pool.specs.SeatLanes.{lane_of}
use Rattle.lane_context.specs.declared.context.Context.{Context}
use Rattle.lane_context.specs.declared.context.Stage.{Stage}
use Rattle.lane_context.specs.declared.context.Stage.TheVariants.{Ready, Closing}
use Rattle.lane_stages.specs.declared.draining.DrainKind.TheVariants.{Close}
use Rattle.lane_stages.specs.declared.draining.Draining.TheVariants.{Done as AllClosed}
use Rattle.lane_core.specs.declared.lane.Lane.{Lane}
use Rattle.lane_stages.specs.Budgets.{Left, notes_alone, with_sheds}
use Rattle.seat_work.specs.Growth.{IsOneStep}
use Rattle.lane_context.specs.Named.{NamesAre}
use Rattle.seat_work.specs.Readings.{ReadsOn}
use Rattle.lane_stages.specs.Readings.{none_asked}
use Rattle.lane_context.specs.Readings.{renamed}
use Rattle.lane_stages.specs.Drainings as draining
use Rattle.lane_context.specs.Contexts.{IsContext, notes_of, entries_of, log_of, hand_of, Fits, FitsContext, IsUnderway, NameFits, HasRoomFor, left_for, left_now, reads_from}

-- the commands that are not answered yet, that one first which is under way
abbrev pub commands_left : Lane → List Command
commands_left l = drop (length l.context.replies.items) l.commands

-- the entries of the commands that are answered, and those behind them
abbrev pub answered_entries : Lane → ToldNotes
answered_entries l = take l.context.begun (entries_of l.context)

abbrev pub entries_since : Lane → ToldNotes
entries_since l = drop l.context.begun (entries_of l.context)

-- the replies so far are the law's for the commands so far and what was noted for them, in this
-- state of the law
pub record HasAnswered (shape : Shape) (lane : ℕ) (l : Lane) (s : LaneState) : Type 0 where
  pub counted : sum (note_counts l.context.replies.items) ≡ l.context.begun
  pub run :
      lane_run sweep_period shape lane new_lane
      (take (length l.context.replies.items) l.commands)
      (pieces (note_counts l.context.replies.items) (answered_entries l))
      ≡ Some (replies_in l.context.replies.items, s)
  pub unstopped :
      before_stop (replies_in l.context.replies.items) ≡ length l.context.replies.items
  pub seen : s.seen ≡ answered_entries l

-- how the law reads the closing from a stage on
abbrev pub reads_closing : ℕ → Stage → Reader (Unit {0})
reads_closing lane Ready = closing lane
reads_closing lane (Closing stage) = draining.rest_of Close lane stage
reads_closing lane _ = λ log. None

-- what was noted since is the beginning of what is under way: of the first of these commands, or
-- where there is none of the closing
abbrev pub IsBegun : Lane → LaneState → Names → List Command → ToldNotes → Type 0
IsBegun l s names [] es =
    let lane = lane_of l.context.seat in
    ReadsOn (closing lane) es none_asked (reads_closing lane l.stage)
IsBegun l s names (command ∷ later) es =
    let lane = lane_of l.context.seat in
    (rest : ToldNotes) →
    turn sweep_period l.context.shape lane s command (log_at s (es ++ rest))
    ≡ reads_from l.context.shape lane (renamed s names) command l.stage (log_of l.context rest)

-- ---- What is still to be spent.

abbrev pub both : Left → Left → Left
both a b =
    record {
      notes = a.notes + b.notes;
      asks = a.asks + b.asks;
      takes = a.takes + b.takes;
      moves = a.moves + b.moves;
      sends = λ to. a.sends to + b.sends to;
    }

-- on each of these commands, in a lane that makes composites or in one that makes none
abbrev pub left_for_each : Bool → List Command → Left
left_for_each composes [] = notes_alone 0
left_for_each composes (command ∷ later) =
    both (left_for composes command) (left_for_each composes later)

-- on all commands of a lane
abbrev pub left_for_all : List Command → Left
left_for_all commands = left_for_each (list_any composes commands) commands

-- and on shedding the regions that they may take
abbrev pub with_takes : Left → Left
with_takes left = record left { notes = left.notes + 2 * left.takes }

-- on the commands of which the first is at this stage, or on the closing
abbrev pub left_for_rest : Bool → List Command → Stage → SeatView → Left
left_for_rest composes [] (Closing stage) v = draining.left_of stage v
left_for_rest composes [] stage v = with_sheds v (notes_alone 0)
left_for_rest composes (command ∷ later) stage v =
    both (left_now composes command stage v) (with_takes (left_for_each composes later))

-- on asking the caches, in the sweeps to come and the closing, where so many allocations ask a cache
abbrev pub left_to_ask : Stage → ℕ → Left
left_to_ask (Closing stage) asking = notes_alone 0
left_to_ask _ asking = notes_alone (cached_classes * (1 + asking / sweep_period))

-- on all that the lane has still to do
abbrev pub left_of : Lane → Left
left_of l =
    let d = l.context in
    let rest = left_for_rest d.composes (commands_left l) l.stage (view_of d.seat) in
    both rest (left_to_ask l.stage (d.asked + rest.asks))

-- ---- A lane.

-- the closing has begun
abbrev pub IsClosing : Stage → Type 0
IsClosing (Closing stage) = ⊤
IsClosing _ = ⊥

-- no command is under way
abbrev pub IsAtRest : Stage → Type 0
IsAtRest Ready = ⊤
IsAtRest _ = ⊥

-- where no command is under way, the law's state is the lane context's
pub record IsResting (d : Context) (s : LaneState) (names : Names) : Type 0 where
  pub begun : d.begun ≡ length (notes_of d)
  pub names_are : names ≡ s.names
  pub asked : s.asked ≡ d.asked

-- the lane's number
abbrev pub number_of : Lane → ℕ
number_of l = lane_of l.context.seat

-- the seat with which it works
abbrev pub seat_of : Lane → PoolSeat
seat_of l = l.context.seat

-- its commands, in the order in which they are carried out
abbrev pub commands_of : Lane → List Command
commands_of l = l.commands

-- its replies so far
abbrev pub replies_of : Lane → List Answered
replies_of l = l.context.replies.items

-- what it noted so far
abbrev pub noted_by : Lane → List Note
noted_by l = l.context.notes.items

-- a lane of the pool that no gate stopped
pub record IsRunningLane (pool : SharedPool) (l : Lane) : Type 0 where
  pub going : l.stopped ≡ false
  pub context : IsContext pool (hand_of l.stage) l.context
  pub fits : Fits pool l.context l.stage
  pub shape : IsShape l.context.shape
  pub commands : AreCommands l.context.shape l.commands
  pub plain : All (FitsContext l.context) l.commands
  pub composing : l.context.composes ≡ list_any composes l.commands
  pub few : length l.context.replies.items ≤ length l.commands
  pub state : LaneState
  pub answered : HasAnswered l.context.shape (number_of l) l state
  pub bound : Names
  pub bound_are : NamesAre bound l.context.names
  pub begun : IsBegun l state bound (commands_left l) (entries_since l)
  pub all_answered : IsClosing l.stage → commands_left l ≡ []
  pub rest : IsAtRest l.stage → IsResting l.context state bound
  pub underway : IsUnderway l.stage → length l.context.replies.items < l.asked
  pub names : NameFits l.context l.stage
  pub room : HasRoomFor pool l.context (left_of l)
  pub replies : length l.commands ≤ vec_capacity l.context.replies
  pub asked : l.asked ≤ length l.commands
  pub spare : l.context.shape.lanes ≤ vec_capacity l.spare.seats

-- the replies so far are the law's, up to the stop for the commands up to there and behind it for
-- those of a stopped lane
pub record HasPassedOver (shape : Shape) (lane : ℕ) (l : Lane) : Type 0 where
  pub counted : sum (note_counts l.context.replies.items) ≡ l.context.begun
  pub state : LaneState
  pub run :
      let n = before_stop (replies_in l.context.replies.items) in
      lane_run sweep_period shape lane new_lane
      (take n l.commands)
      (take n (pieces (note_counts l.context.replies.items) (answered_entries l)))
      ≡ Some (take n (replies_in l.context.replies.items), state)
  pub stopped :
      let n = before_stop (replies_in l.context.replies.items) in
      stopped_run lane
      (drop n (take (length l.context.replies.items) l.commands))
      (drop n (pieces (note_counts l.context.replies.items) (answered_entries l)))
      ≡ Some (drop n (replies_in l.context.replies.items))

-- a lane of the pool that its gate stopped: no command is under way, and its closing is the law's
pub record IsStoppedLane (pool : SharedPool) (l : Lane) : Type 0 where
  pub over : l.stopped ≡ true
  pub context : IsContext pool (hand_of l.stage) l.context
  pub fits : Fits pool l.context l.stage
  pub shape : IsShape l.context.shape
  pub commands : AreCommands l.context.shape l.commands
  pub plain : All (FitsContext l.context) l.commands
  pub few : length l.context.replies.items ≤ length l.commands
  pub answered : HasPassedOver l.context.shape (number_of l) l
  pub underway : IsUnderway l.stage → ⊥
  pub all_answered : IsClosing l.stage → commands_left l ≡ []
  pub rest : IsAtRest l.stage → l.context.begun ≡ length (notes_of l.context)
  pub since :
      ReadsOn (closing (number_of l)) (entries_since l) none_asked
      (reads_closing (number_of l) l.stage)
  pub room : HasRoomFor pool l.context (left_of l)
  pub replies : length l.commands ≤ vec_capacity l.context.replies
  pub asked : l.asked ≤ length l.commands
  pub spare : l.context.shape.lanes ≤ vec_capacity l.spare.seats

-- a lane of the pool
abbrev pub IsLane : SharedPool → Lane → Type 0
IsLane pool l = MatchBool l.stopped (IsStoppedLane pool l) (IsRunningLane pool l)

-- its gate, which stops it at these lines, was asked and heeded
pub record Heeds (stops : ℕ → Bool) (l : Lane) : Type 0 where
  pub passed : (line : ℕ) → line < before_stop (replies_in l.context.replies.items) →
      stops line ≡ false
  pub stopped : l.stopped ≡ true → stops (before_stop (replies_in l.context.replies.items)) ≡ true
  pub cause :
      before_stop (replies_in l.context.replies.items) < length l.context.replies.items
      → stops (before_stop (replies_in l.context.replies.items)) ≡ true
  pub asked : l.stopped ≡ false → (line : ℕ) → line < l.asked → stops line ≡ false

-- all commands are answered, and all caches are closed and shed
abbrev pub IsFinished : Lane → Type 0
IsFinished l = l.stage ≡ Closing AllClosed

-- nothing was added to the log
pub record SameLog (old new : Lane) : Type 0 where
  pub replies : new.context.replies.items ≡ old.context.replies.items
  pub notes : new.context.notes.items ≡ old.context.notes.items

-- the log grew by what one step may do: a reply or notes, at most one reply, and the notes of one
-- step
pub record LogGrew (old new : Lane) : Type 0 where
  pub replies : List Answered
  pub notes : List Note
  pub replies_are : replies_of new ≡ replies_of old ++ replies
  pub notes_are : noted_by new ≡ noted_by old ++ notes
  pub some : 0 < length replies + length notes
  pub one_reply : length replies ≤ 1
  pub one_step : IsOneStep notes

-- it is the same lane, with the same commands
pub record SameLane (old new : Lane) : Type 0 where
  pub number : number_of new ≡ number_of old
  pub shape : new.context.shape ≡ old.context.shape
  pub commands : new.commands ≡ old.commands
