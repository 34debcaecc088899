-- What a composite comes to as it is bound.
use Rattle.std.specs.Prelude.{ℕ, ◌≤◌, Option, option_map, Result, Ok, Err}
use Rattle.pool_law.specs.declared.run.Reply.{Reply}
use Rattle.pool_law.specs.declared.run.Shape.{Shape}
use Rattle.pool_law.specs.Composites.{Composite, most_parts, moved_to}
use Rattle.pool_law.specs.LaneStates.{LaneState}
use Rattle.pool_law.specs.Lanes.{Answer, consolidate, composed}
use Rattle.pool_law.specs.Readers.{ToldNotes, Reader, ◌>>=◌, give, given}
use Rattle.lane_reader.specs.declared.log.Log.{Log}
use Rattle.lane_reader.specs.declared.log.At.{At}
use Rattle.lane_reader.specs.declared.composite.Made.{Made}
use Rattle.lane_reader.specs.Reading.{log_from}

-- in the law's words
abbrev pub made_of : Composite → Made → Result Composite Reply
made_of c Made.AsItIs = Ok c
made_of c (Made.Moved root) = Ok (moved_to root c)
made_of c Made.Handles = Err Reply.Handles
made_of c Made.Full = Err Reply.Full

-- what is read, and the log behind it
abbrev pub reads_made :
    Composite → ToldNotes → Log → Option (Made × At) →
    Option (Result Composite Reply × Rattle.pool_law.specs.Readers.Log)
reads_made c before log o = option_map (λ p. (made_of c p.0, log_from before log p.1)) o

-- a composite that stays as it is has few parts
abbrev pub IsShort : ℕ → Made → Type 0
IsShort parts Made.AsItIs = parts ≤ most_parts
IsShort parts _ = Unit {0}

-- the answer as a composite is bound to a name
abbrev pub composed_as : Shape → ℕ → LaneState → ℕ → Composite → Reader Answer
composed_as shape lane s name c = consolidate shape lane c >>= (λ made. give (composed s name made))

-- the same, where there is one
abbrev pub composed_if : Shape → ℕ → LaneState → ℕ → Option Composite → Reader Answer
composed_if shape lane s name o = given o >>= composed_as shape lane s name
