-- One command of a lane: its answer, the sweep that is then due, and the end of its notes.
use Rattle.std.proofs.Common.{◌≡◌, ℕ, ◌<◌, ◌≤◌, [], ◌∷◌, ◌++◌, length, take, Bool, true, false, refl, sym, ap, arith, ◌∙◌}
use Rattle.std.proofs.lemmas.List.{take_all, append-nil}
use Rattle.std.specs.Prelude.{if◌then◌else◌, Option, Some, None, option_map, option_and_then}
use Rattle.pool_law.specs.declared.command.Command.{Command}
use Rattle.pool_law.specs.declared.run.Shape.{Shape}
use Rattle.pool_law.specs.declared.run.Reply.{Reply}
use Rattle.pool_law.specs.Readers.{ToldNotes, Log, ◌>>◌, give, at_end, ended_with}
use Rattle.pool_law.specs.Names.{Names}
use Rattle.pool_law.specs.LaneStates.{LaneState, log_at, state_at}
use Rattle.pool_law.specs.Lanes.{Answer, answer_of, turn}
use Rattle.pool_law.specs.LaneLaw.{lane_step}
use Rattle.pool_law.specs.Patterns.{sweep_if_due}
use Rattle.lane_reader.specs.declared.log.At.{At}
use Rattle.lane_reader.specs.declared.bound.Change.{Change}
use Rattle.lane_reader.specs.Reading.{entries, log_from, passes}
use Rattle.lane_reader.specs.Replying.{same_reply, where_said, changes}
use Rattle.lane_reader.specs.Standing.{changed}
use Rattle.lane_reader.specs.Running.{where_answered, next_state}
use Rattle.lane_reader.proofs.ReadingLemmas.{entries-past, length-entries}
use Rattle.lane_reader.proofs.PieceLemmas.{where-left}

none-either : {X : Type 0} (b : Bool) → ◌≡◌ {A = Option X} None (if b then None else None)
none-either true = refl
none-either false = refl

-- ---- The answer, and the sweep that is then due.

-- the names that are said, and the log behind the sweep, once it is read
abbrev pub swept : Names → Option (Unit {0} × Log) → Option (Names × Log)
swept names q = option_map (λ p. (names, p.1)) q

-- the same, behind what was said
abbrev pub behind_answer : ℕ → ℕ → Option (Names × Log) → Option (Names × Log)
behind_answer period lane None = None
behind_answer period lane (Some p) = swept p.0 (sweep_if_due period lane p.1)

sweep-said : (reply : Reply) (a : Answer) (q : Option (Unit {0} × Log)) →
    where_said reply (option_and_then (λ got. give a got.1) q)
    ≡ (if same_reply a.reply reply then swept a.names q else None)
sweep-said reply a None = none-either (same_reply a.reply reply)
sweep-said reply a (Some p) = refl

said-then : (period lane : ℕ) (b : Bool) (p : Names × Log) →
    behind_answer period lane (if b then Some p else None)
    ≡ (if b then swept p.0 (sweep_if_due period lane p.1) else None)
said-then period lane true p = refl
said-then period lane false p = refl

-- what a command comes to, by what was said
turn-said : (period : ℕ) (shape : Shape) (lane : ℕ) (s : LaneState) (c : Command) (reply : Reply) (log : Log) →
    where_said reply (turn period shape lane s c log)
    ≡ behind_answer period lane (where_said reply (answer_of shape lane s c log))
turn-said period shape lane s c reply log = go (answer_of shape lane s c log)
  where
    go : (o : Option (Answer × Log)) →
        where_said reply (option_and_then (λ got. (sweep_if_due period lane >> give got.0) got.1) o)
        ≡ behind_answer period lane (where_said reply o)
    go None = refl
    go (Some p) =
        sweep-said reply p.0 (sweep_if_due period lane p.1)
        ∙ sym (said-then period lane (same_reply p.0.reply reply) (p.0.names, p.1))

-- the log of a lane, as the program reads it from its first note on
pub log-first : (s : LaneState) (log : Rattle.lane_reader.specs.declared.log.Log.Log) (asked : ℕ) → s.asked ≡ asked →
    log_at s (entries log) ≡ log_from s.seen log (record { place = 0; asked = asked })
log-first s log asked same =
    let all : s.seen ++ [] ≡ s.seen = append-nil s.seen in
    λ i. record { seen = sym all i; asked = same i; left = entries log }

-- what a command comes to, by what the program found of its answer
pub turn-found : (period : ℕ) (shape : Shape) (lane : ℕ) (s : LaneState) (c : Command) (reply : Reply)
    (log : Rattle.lane_reader.specs.declared.log.Log.Log) (asked : ℕ) (got : Option (Change × At)) → s.asked ≡ asked →
    where_said reply (answer_of shape lane s c (log_from s.seen log (record { place = 0; asked = asked })))
    ≡ changes s log got →
    where_said reply (turn period shape lane s c (log_at s (entries log)))
    ≡ behind_answer period lane (changes s log got)
turn-found period shape lane s c reply log asked got same found =
    turn-said period shape lane s c reply (log_at s (entries log))
    ∙ ap (λ (o : Option (Names × Log)). behind_answer period lane o)
    (ap (λ (l : Log). where_said reply (answer_of shape lane s c l)) (log-first s log asked same) ∙ found)

-- behind an answer no sweep is found that is due, or it is
pub behind-found : (period lane : ℕ) (s : LaneState) (log : Rattle.lane_reader.specs.declared.log.Log.Log)
    (change : Change) (at : At) (found : Option At) →
    sweep_if_due period lane (log_from s.seen log at) ≡ passes s.seen log found →
    behind_answer period lane (changes s log (Some (change, at)))
    ≡ changes s log (option_map (λ behind. (change, behind)) found)
behind-found period lane s log change at None is =
    ap (λ (q : Option (Unit {0} × Log)). swept (changed change s.names) q) is
behind-found period lane s log change at (Some behind) is =
    ap (λ (q : Option (Unit {0} × Log)). swept (changed change s.names) q) is

-- ---- The end of its notes.

-- the state behind a log of which this is left
abbrev finished : Names → Log → ToldNotes → Option LaneState
finished names log [] = Some (state_at names log)
finished names log (e ∷ es) = None

-- the state behind what was said, where nothing is left
abbrev pub ended_state : Option (Names × Log) → Option LaneState
ended_state None = None
ended_state (Some p) = finished p.0 p.1 p.1.left

-- what is answered, and the state behind it
abbrev answered_state : Answer × Log → Option (Reply × LaneState)
answered_state p = Some (p.0.reply, state_at p.0.names p.1)

ended-is : (reply : Reply) (p : Answer × Log) (left : ToldNotes) →
    where_answered reply (option_and_then answered_state (option_and_then (λ g. give p.0 g.1) (ended_with p.1 left)))
    ≡ (if same_reply p.0.reply reply then finished p.0.names p.1 left else None)
ended-is reply p [] = refl
ended-is reply p (e ∷ es) = none-either (same_reply p.0.reply reply)

said-ended : (b : Bool) (p : Names × Log) →
    ended_state (if b then Some p else None) ≡ (if b then finished p.0 p.1 p.1.left else None)
said-ended true p = refl
said-ended false p = refl

-- a step, by what its command comes to
pub step-is : (period : ℕ) (shape : Shape) (lane : ℕ) (s : LaneState) (c : Command) (es : ToldNotes) (reply : Reply) →
    where_answered reply (lane_step period shape lane s c es)
    ≡ ended_state (where_said reply (turn period shape lane s c (log_at s es)))
step-is period shape lane s c es reply = go (turn period shape lane s c (log_at s es))
  where
    go : (o : Option (Answer × Log)) →
        where_answered reply
        (option_and_then answered_state (option_and_then (λ got. (at_end >> give got.0) got.1) o))
        ≡ ended_state (where_said reply o)
    go None = refl
    go (Some p) = ended-is reply p p.1.left ∙ sym (said-ended (same_reply p.0.reply reply) (p.0.names, p.1))

module _ (period : ℕ) (shape : Shape) (lane : ℕ) (s : LaneState) (c : Command) (reply : Reply)
    (log : Rattle.lane_reader.specs.declared.log.Log.Log) where
  -- what the command comes to, as the program found it
  abbrev pub Finds : Option (Change × At) → Type 0
  Finds got = where_said reply (turn period shape lane s c (log_at s (entries log))) ≡ changes s log got

  -- the command does not have this reply
  pub unsaid : Finds None → where_answered reply (lane_step period shape lane s c (entries log)) ≡ None
  unsaid found =
      step-is period shape lane s c (entries log) reply ∙ ap (λ (o : Option (Names × Log)). ended_state o) found

  module _ (change : Change) (behind : At) (found : Finds (Some (change, behind))) where
    -- some note is left
    pub unfinished : behind.place < length log.notes.now →
        where_answered reply (lane_step period shape lane s c (entries log)) ≡ None
    unfinished there =
        step-is period shape lane s c (entries log) reply
        ∙ ap (λ (o : Option (Names × Log)). ended_state o) found
        ∙ where-left (λ es. finished (changed change s.names) (log_from s.seen log behind) es) None (λ e rest. refl)
        log.notes.now log.told.now behind.place there

    -- none is
    pub all-read : length log.notes.now ≤ behind.place →
        where_answered reply (lane_step period shape lane s c (entries log))
        ≡ Some (next_state s log (change, behind.asked))
    all-read past =
        let all : take behind.place (entries log) ≡ entries log =
        take_all behind.place (entries log) (omega (arith, past, length-entries log.notes.now log.told.now)) in
        step-is period shape lane s c (entries log) reply
        ∙ ap (λ (o : Option (Names × Log)). ended_state o) found
        ∙ ap (λ (es : ToldNotes). finished (changed change s.names) (log_from s.seen log behind) es)
        (entries-past log.notes.now log.told.now behind.place past)
        ∙ ap (λ (es : ToldNotes). Some (next_state' es)) all
      where
        next_state' : ToldNotes → LaneState
        next_state' es = record { names = changed change s.names; seen = s.seen ++ es; asked = behind.asked }
