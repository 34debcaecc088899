-- A command of a lane, as the law reads its notes and as the program reads them.
use Rattle.std.specs.Prelude.{◌≡◌, Option, Some, None}
use Rattle.pool_law.specs.declared.command.Command.{Command}
use Rattle.pool_law.specs.declared.run.Reply.{Reply}
use Rattle.pool_law.specs.Refusals.{first_refusal, refusals}
use Rattle.pool_law.specs.LaneStates.{LaneState, log_at}
use Rattle.pool_law.specs.LaneLaw.{sweep_period, lane_step}
use Rattle.pool_law.specs.Lanes.{carried_out, answer_of, turn}
use Rattle.pool_law.specs.Readers.{ToldNotes}
use Rattle.lane_reader.specs.declared.log.Log.{Log}
use Rattle.lane_reader.specs.declared.log.At.{At}
use Rattle.lane_reader.specs.declared.bound.Change.{Change}
use Rattle.lane_reader.specs.declared.candidate.Candidate.{Candidate}
use Rattle.lane_reader.specs.declared.lane.Lane.{Lane}
use Rattle.lane_reader.specs.declared.setting.Setting.{Setting}
use Rattle.lane_reader.specs.Candidates.{candidate_of, IsCandidate}
use Rattle.lane_reader.specs.Reading.{entries, log_from}
use Rattle.lane_reader.specs.Replying.{where_said, changes}
use Rattle.lane_reader.specs.Standing.{IsLane}

-- what a command that is not refused comes to, where it is answered this
abbrev pub Carries :
    Setting → Lane → Command → Reply → Log → At → Option (Change × At) → Type 0
Carries setting lane command reply log at got =
    (s : LaneState) → IsLane lane s →
    first_refusal (refusals setting.shape.now s command) ≡ None →
    where_said reply (carried_out setting.shape.now setting.lane s command
    (log_from s.seen log at))
    ≡ changes s log got

-- the same of a command that makes a composite, of which this was found
abbrev pub CarriesWith :
    Setting → Lane → Command → Candidate → Reply → Log → At → Option (Change × At) → Type 0
CarriesWith setting lane command candidate reply log at got =
    (s : LaneState) → IsLane lane s → IsCandidate (candidate_of s command) candidate →
    first_refusal (refusals setting.shape.now s command) ≡ None →
    where_said reply (carried_out setting.shape.now setting.lane s command
    (log_from s.seen log at))
    ≡ changes s log got

-- what a command comes to, refused or not, where it is answered this
abbrev pub Answers :
    Setting → Lane → Command → Reply → Log → At → Option (Change × At) → Type 0
Answers setting lane command reply log at got =
    (s : LaneState) → IsLane lane s →
    where_said reply (answer_of setting.shape.now setting.lane s command (log_from s.seen log at))
    ≡ changes s log got

-- what a command and the sweep that is then due come to, where it is answered this; more notes may
-- be left
abbrev pub TurnsOn : Setting → Lane → Command → Reply → Log → Option (Change × At) → Type 0
TurnsOn setting lane command reply log got =
    (s : LaneState) → IsLane lane s →
    where_said reply
    (turn sweep_period setting.shape.now setting.lane s command (log_at s (entries log)))
    ≡ changes s log got

-- exactly these are the notes of a command with this reply, and this is the lane behind it
pub record HasTurned
    (setting : Setting) (s : LaneState) (command : Command) (reply : Reply) (es : ToldNotes)
    (lane : Lane) : Type 0
  where
    pub next : LaneState
    pub step : lane_step sweep_period setting.shape.now setting.lane s command es
        ≡ Some (reply, next)
    pub is : IsLane lane next

-- they are not
abbrev pub HasNotTurned : Setting → LaneState → Command → Reply → ToldNotes → Type 0
HasNotTurned setting s command reply es =
    (next : LaneState) →
    lane_step sweep_period setting.shape.now setting.lane s command es ≡ Some (reply, next) → ⊥
