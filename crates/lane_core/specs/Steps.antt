-- What a step of a lane answers.
use Rattle.std.specs.Prelude.{◌≡◌, ℕ, ⊤, false, List, [], ◌∷◌, ◌++◌, length, take, Some, IsSome}
use Rattle.pool_law.specs.declared.command.Command.{Command}
use Rattle.pool_law.specs.declared.note.Object.{Object}
use Rattle.pool_law.specs.declared.run.Shape.{Shape}
use Rattle.pool_law.specs.LaneLaw.{sweep_period, lane_run, pieces, note_counts, replies_in}
use Rattle.pool_law.specs.LaneStates.{LaneState, new_lane, log_at}
use Rattle.pool_law.specs.Lanes.{turn}
use Rattle.pool_law.specs.Patterns.{closing}
use Rattle.pool_law.specs.Readers.{ToldNotes}
use Rattle.shared_pool.specs.declared.pool.SharedPool.{SharedPool}
use Rattle.shared_pool.specs.MailAnswers.{IsDrained}
use Rattle.shared_pool.specs.Seats.{FoundBusy}
use Rattle.lane_core.specs.declared.lane.Lane.{Lane}
use Rattle.lane_context.specs.declared.context.Stage.{Stage}
use Rattle.lane_context.specs.declared.context.Turn.{Turn}
use Rattle.lane_context.specs.declared.context.Turn.TheVariants.{Went as TurnWent, Pending as TurnPending, Waiting as TurnWaiting}
use Rattle.lane_stages.specs.declared.stepped.Stepped.{Stepped}
use Rattle.lane_stages.specs.declared.stepped.Stepped.TheVariants.{Went, Pending, Waiting, Finished}
use Rattle.lane_stages.specs.NextNotes.{StandsFirst}
use Rattle.lane_context.specs.Contexts.{ReceivesFrom}
use Rattle.lane_core.specs.Lanes.{IsFinished, SameLog, LogGrew, answered_entries, commands_left, commands_of, entries_since, number_of, replies_of}

-- the next command receives from that lane
abbrev pub ReceivesNext : ℕ → List Command → Type 0
ReceivesNext sender [] = ⊥
ReceivesNext sender (command ∷ later) = ReceivesFrom command sender

-- the law reads these entries from this state on: as those of the first of these commands, or where
-- there is none as those of the closing
abbrev pub IsReadOn : Shape → ℕ → LaneState → List Command → ToldNotes → Type 0
IsReadOn shape lane s [] es = IsSome (closing lane (log_at s es))
IsReadOn shape lane s (command ∷ later) es =
    IsSome (turn sweep_period shape lane s command (log_at s es))

-- the law's state behind the commands that are answered, where there are more
abbrev pub IsStateBehind : Lane → LaneState → List Command → Type 0
IsStateBehind l s [] = ⊤
IsStateBehind l s (command ∷ later) =
    lane_run sweep_period l.context.shape (number_of l) new_lane
    (take (length (replies_of l)) (commands_of l))
    (pieces (note_counts (replies_of l)) (answered_entries l))
    ≡ Some (replies_in (replies_of l), s)

-- these entries may follow: the law reads them behind what the lane noted since its last reply
abbrev pub MayFollow : Lane → ToldNotes → Type 0
MayFollow l later =
    (s : LaneState) × IsStateBehind l s (commands_left l)
    × IsReadOn l.context.shape (number_of l) s (commands_left l) (entries_since l ++ later)

-- the lane's next note stands at this object: some entries may follow, and all that may begin with
-- a note there
abbrev pub NextStandsAt : Lane → Object → Type 0
NextStandsAt l object =
    ((later : ToldNotes) × MayFollow l later)
    × ((later : ToldNotes) → MayFollow l later → StandsFirst object later)

-- what a step did, by its answer: where it went a reply was added, or what one section and one step
-- on a count note, or both, and else nothing; where it is pending its claim found another seat at
-- the object of its next note; where it waits its command receives from that lane, nothing that was
-- posted from there was unfetched, and its gate didn't stop it; it is finished where all was done
-- before
abbrev pub HasStepped : SharedPool → Lane → Lane → Stepped → Type 0
HasStepped pool old new Went = LogGrew old new
HasStepped pool old new (Pending held) =
    SameLog old new × FoundBusy pool held.object false old.context.seat new.context.seat held
    × NextStandsAt old held.object
HasStepped pool old new (Waiting sender) =
    SameLog old new × ReceivesNext sender (commands_left old)
    × IsDrained sender old.context.seat
    × (old.stopped ≡ false) × (new.stopped ≡ false)
HasStepped pool old new Finished = IsFinished old × (new ≡ old)

-- the lane at another stage
abbrev pub at_stage : Lane → Stage → Lane
at_stage l stage = record l { stage = stage }

-- how a step answers by what the turn came to
abbrev pub stepped_of : Turn → Stepped
stepped_of (TurnWent next) = Went
stepped_of (TurnPending held next) = Pending held
stepped_of (TurnWaiting sender) = Waiting sender
