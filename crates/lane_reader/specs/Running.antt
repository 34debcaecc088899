-- The commands of a lane, one after another.
use Rattle.std.specs.Prelude.{◌≡◌, ℕ, suc, ◌<◌, ◌≤◌, List, ◌++◌, length, take, drop, sum, Option, Some, None, option_map, if◌then◌else◌}
use Rattle.pool_law.specs.declared.command.Command.{Command}
use Rattle.pool_law.specs.declared.run.Reply.{Reply}
use Rattle.pool_law.specs.declared.run.Answered.{Answered}
use Rattle.pool_law.specs.declared.run.Shape.{Shape}
use Rattle.pool_law.specs.LaneStates.{LaneState, new_lane}
use Rattle.pool_law.specs.LaneLaw.{sweep_period, lane_step, lane_run, stopped_run, pieces, note_counts, replies_in}
use Rattle.pool_law.specs.Lanes.{not_carried_out, answer}
use Rattle.pool_law.specs.Readers.{ToldNotes, Reader, ◌>>◌, give}
use Rattle.lane_reader.specs.declared.log.Log.{Log}
use Rattle.lane_reader.specs.declared.bound.Change.{Change}
use Rattle.lane_reader.specs.declared.lane.Lane.{Lane}
use Rattle.lane_reader.specs.declared.runs.Reach.{Reach}
use Rattle.lane_reader.specs.declared.setting.Setting.{Setting}
use Rattle.lane_reader.specs.Reading.{entries}
use Rattle.lane_reader.specs.Replying.{same_reply}
use Rattle.lane_reader.specs.Standing.{IsLane, changed}

-- the answer to a command that is refused by this reply
abbrev pub refused_by : ℕ → LaneState → Command → Reply → Reader Rattle.pool_law.specs.Lanes.Answer
refused_by lane s command reply = not_carried_out lane command >> give (answer reply s.names)

-- the next state, where this is answered
abbrev pub where_answered : Reply → Option (Reply × LaneState) → Option LaneState
where_answered reply None = None
where_answered reply (Some p) = if same_reply p.0 reply then Some p.1 else None

-- the state behind all notes of a log, once the names have changed and so many asked a cache
abbrev pub next_state : LaneState → Log → Change × ℕ → LaneState
next_state s log p =
    record { names = changed p.0 s.names; seen = s.seen ++ entries log; asked = p.1 }

-- the next state of a lane, where these notes are those of a command with this reply
abbrev pub Turns :
    Setting → Lane → Command → Reply → Log → Option (Change × ℕ) → Type 0
Turns setting lane command reply log got =
    (s : LaneState) → IsLane lane s →
    where_answered reply
    (lane_step sweep_period setting.shape.now setting.lane s command (entries log))
    ≡ option_map (next_state s log) got

-- these are the notes and replies of commands, one after another, from a state on
abbrev pub Runs :
    Shape → ℕ → LaneState → List Command → List Answered → ToldNotes → LaneState → Type 0
Runs shape lane s commands replies es last =
    lane_run sweep_period shape lane s commands (pieces (note_counts replies) es)
    ≡ Some (replies_in replies, last)

-- they are those of a new lane; more notes may follow
pub record HasRun
    (shape : Shape) (lane : ℕ) (commands : List Command) (replies : List Answered) (es : ToldNotes) :
    Type 0
  where
    pub counted : sum (note_counts replies) ≤ length es
    pub last : LaneState
    pub runs : Runs shape lane new_lane commands replies es last

-- these are the notes and replies of the commands of a stopped lane
abbrev pub Stops : ℕ → List Command → List Answered → ToldNotes → Type 0
Stops lane commands replies es =
    stopped_run lane commands (pieces (note_counts replies) es) ≡ Some (replies_in replies)

-- the same; more notes may follow
pub record HasStopped
    (lane : ℕ) (commands : List Command) (replies : List Answered) (es : ToldNotes) : Type 0
  where
    pub counted : sum (note_counts replies) ≤ length es
    pub stops : Stops lane commands replies es

-- so far the commands, with their replies and notes, are of this kind
abbrev pub Reaches :
    (List Command → List Answered → ToldNotes → Type 0) → List Command → List Answered → Log →
    Reach → Type 0
Reaches P commands replies log (Reach.Whole behind) =
    P commands replies (entries log)
    × (entries behind ≡ drop (sum (note_counts replies)) (entries log))
Reaches P commands replies log (Reach.Until at) =
    (at < length commands)
    × P (take at commands) (take at replies) (entries log)
    × (P (take (suc at) commands) (take (suc at) replies) (entries log) → ⊥)
