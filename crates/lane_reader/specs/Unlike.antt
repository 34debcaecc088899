-- The first command of a lane whose reply and notes are not those of the law.
use Rattle.std.specs.Prelude.{◌≡◌, ℕ, suc, ◌<◌, ◌≤◌, List, length, take, drop, sum, Some}
use Rattle.pool_law.specs.declared.command.Command.{Command}
use Rattle.pool_law.specs.declared.run.Shape.{Shape}
use Rattle.pool_law.specs.declared.run.Answered.{Answered}
use Rattle.pool_law.specs.Readers.{ToldNotes}
use Rattle.pool_law.specs.LaneStates.{LaneState, new_lane}
use Rattle.pool_law.specs.LaneLaw.{sweep_period, lane_run, stopped_run, before_stop, pieces, note_counts, replies_in, IsLaneLog}

-- these commands have these replies, and the first of these notes, up to a stop and behind it
pub record AreAnswered
    (shape : Shape) (lane : ℕ) (commands : List Command) (replies : List Answered) (es : ToldNotes) :
    Type 0
  where
    pub counted : sum (note_counts replies) ≤ length es
    pub last : LaneState
    pub answered :
        let n = before_stop (replies_in replies) in
        lane_run sweep_period shape lane new_lane
        (take n commands) (take n (pieces (note_counts replies) es))
        ≡ Some (take n (replies_in replies), last)
    pub stopped :
        let n = before_stop (replies_in replies) in
        stopped_run lane (drop n commands) (drop n (pieces (note_counts replies) es))
        ≡ Some (drop n (replies_in replies))

-- the first so many commands have their replies and notes, and no longer with the next; where they
-- are all, what stands behind them is wrong
pub record IsUnlikeAt
    (shape : Shape) (lane : ℕ) (commands : List Command) (replies : List Answered) (es : ToldNotes)
    (at : ℕ) : Type 0
  where
    pub within : at ≤ length commands
    pub before : AreAnswered shape lane (take at commands) (take at replies) es
    pub with_it :
        at < length commands →
        AreAnswered shape lane (take (suc at) commands) (take (suc at) replies) es → ⊥
    pub law : IsLaneLog shape lane commands replies es → ⊥
