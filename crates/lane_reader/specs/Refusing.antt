-- The refusals of a command, as the program finds them.
use Rattle.std.specs.Prelude.{◌≡◌, Bool, false, ◌||◌, List, [], ◌∷◌, Option, option_map}
use Rattle.pool_law.specs.declared.command.Command.{Command}
use Rattle.pool_law.specs.declared.run.Shape.{Shape}
use Rattle.pool_law.specs.Composites.{Composite, size_of}
use Rattle.pool_law.specs.LaneStates.{LaneState}
use Rattle.pool_law.specs.Refusals.{Refusal, refusal, first_refusal, refusals}
use Rattle.lane_reader.specs.declared.candidate.Candidate.{Candidate}
use Rattle.lane_reader.specs.declared.lane.Lane.{Lane}
use Rattle.lane_reader.specs.declared.replies.Refused.{Refused}
use Rattle.lane_reader.specs.Candidates.{candidate_of, IsCandidate}
use Rattle.lane_reader.specs.Replying.{reply_of}
use Rattle.lane_reader.specs.Standing.{IsLane}

-- a refusal with its test, in the law's words
abbrev pub refusal_of : Refused × Bool → Refusal
refusal_of r = refusal (reply_of r.0) r.1

-- one of the refusals comes
abbrev pub some_comes : List Refusal → Bool
some_comes [] = false
some_comes (r ∷ rs) = r.comes || some_comes rs

-- the composite can be read up to its end
abbrev pub IsRead : Composite → Type 0
IsRead c = c.writer ≡ size_of c.parts

-- this is the first refusal of a command, if it is refused
abbrev pub Refuses : Shape → Lane → Command → Option Refused → Type 0
Refuses shape lane command found =
    (s : LaneState) → IsLane lane s →
    first_refusal (refusals shape s command) ≡ option_map reply_of found

-- the same of a command that makes a composite, of which this was found
abbrev pub RefusesWith : Shape → Lane → Command → Candidate → Option Refused → Type 0
RefusesWith shape lane command candidate found =
    (s : LaneState) → IsLane lane s → IsCandidate (candidate_of s command) candidate →
    first_refusal (refusals shape s command) ≡ option_map reply_of found
