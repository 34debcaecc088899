-- The law of a whole log of a lane: its commands in order, and then the closing of its caches.
use Rattle.std.specs.Prelude.{◌≡◌, ℕ, suc, ◌≤◌, List, [], ◌∷◌, length, map, take, drop, sum, Option, Some, None, option_map}
use Rattle.pool_law.specs.declared.command.Command.{Command}
use Rattle.pool_law.specs.declared.run.Shape.{Shape}
use Rattle.pool_law.specs.declared.run.Reply.{Reply}
use Rattle.pool_law.specs.declared.run.Answered.{Answered}
use Rattle.pool_law.specs.Options.{◌>>=◌}
use Rattle.pool_law.specs.Readers.{ToldNotes, read_all}
use Rattle.pool_law.specs.LaneStates.{LaneState, new_lane, log_at, state_at}
use Rattle.pool_law.specs.Lanes.{turn, not_carried_out}
use Rattle.pool_law.specs.Patterns.{closing}

-- a lane sweeps its caches once so many allocations asked one
abbrev pub sweep_period : ℕ
sweep_period = 8192

-- a command's reply and the lane's next state, where exactly these are its notes
abbrev pub lane_step :
    ℕ → Shape → ℕ → LaneState → Command → ToldNotes → Option (Reply × LaneState)
lane_step period shape lane s c es = do
  (a, log) ← read_all (turn period shape lane s c) (log_at s es)
  Some (a.reply, state_at a.names log)

-- the replies to commands whose notes are these, and the state after them
abbrev pub lane_run :
    ℕ → Shape → ℕ → LaneState → List Command → List ToldNotes → Option (List Reply × LaneState)
lane_run period shape lane s [] [] = Some ([], s)
lane_run period shape lane s [] (es ∷ groups) = None
lane_run period shape lane s (c ∷ cs) [] = None
lane_run period shape lane s (c ∷ cs) (es ∷ groups) = do
  (reply, mid) ← lane_step period shape lane s c es
  (replies, last) ← lane_run period shape lane mid cs groups
  Some (reply ∷ replies, last)

-- ---- A lane that its gate stopped.

-- how many commands were answered before the lane was stopped
abbrev pub before_stop : List Reply → ℕ
before_stop [] = 0
before_stop (Reply.Stopped ∷ replies) = 0
before_stop (reply ∷ replies) = suc (before_stop replies)

-- the replies to commands of a stopped lane whose notes are these
abbrev pub stopped_run : ℕ → List Command → List ToldNotes → Option (List Reply)
stopped_run lane [] [] = Some []
stopped_run lane [] (es ∷ groups) = None
stopped_run lane (c ∷ cs) [] = None
stopped_run lane (c ∷ cs) (es ∷ groups) = do
  _ ← read_all (not_carried_out lane c) (log_at new_lane es)
  replies ← stopped_run lane cs groups
  Some (Reply.Stopped ∷ replies)

-- ---- A whole log.

-- a list cut into pieces of these lengths, and what is left
abbrev pub pieces : {X : Type 0} → List ℕ → List X → List (List X)
pieces [] xs = []
pieces (n ∷ ns) xs = take n xs ∷ pieces ns (drop n xs)

-- what is left of a list behind pieces of these lengths
abbrev pub behind : {X : Type 0} → List ℕ → List X → List X
behind [] xs = xs
behind (n ∷ ns) xs = behind ns (drop n xs)

-- how many notes each command made
abbrev pub note_counts : List Answered → List ℕ
note_counts replies = map (λ a. a.notes) replies

-- the replies alone
abbrev pub replies_in : List Answered → List Reply
replies_in replies = map (λ a. a.reply) replies

-- whether these entries close the caches of a lane
abbrev pub closes : ℕ → ToldNotes → Option (Unit {0})
closes lane es = option_map (λ got. tt) (read_all (closing lane) (log_at new_lane es))

-- a lane's replies and notes are those of its commands, up to a stop and behind it, and its closing
pub record IsLaneLog
    (shape : Shape) (lane : ℕ) (commands : List Command) (replies : List Answered) (es : ToldNotes) :
    Type 0
  where
    pub counted : sum (note_counts replies) ≤ length es
    pub last : LaneState
    pub answered :
        let n = before_stop (replies_in replies) in
        lane_run sweep_period shape lane new_lane
        (take n commands) (take n (pieces (note_counts replies) es))
        ≡ Some (take n (replies_in replies), last)
    pub stopped :
        let n = before_stop (replies_in replies) in
        stopped_run lane (drop n commands) (drop n (pieces (note_counts replies) es))
        ≡ Some (drop n (replies_in replies))
    pub closed : closes lane (behind (note_counts replies) es) ≡ Some tt
