-- The composite that a command makes, before it is consolidated.
use Rattle.std.specs.Prelude.{◌≡◌, ℕ, ◌≤◌, Bool, false, nat_lt, length, map, vec_len, Option, Some, None, IsTrue}
use Rattle.pool_law.specs.declared.command.Command.{Command}
use Rattle.pool_law.specs.declared.command.Command.TheVariants.{Compose, Add}
use Rattle.pool_law.specs.Composites.{most_bytes, size_of}
use Rattle.pool_law.specs.LaneStates.{LaneState, composite_from, composite_with}
use Rattle.lane_reader.specs.declared.composite.Composite.{Composite}
use Rattle.lane_reader.specs.declared.candidate.Candidate.{Candidate}
use Rattle.lane_reader.specs.Viewing.{part_of, composite_in}

-- the composite of a command, if its names have one
abbrev pub candidate_of : LaneState → Command → Option Rattle.pool_law.specs.Composites.Composite
candidate_of s (Compose fresh names) = composite_from s names
candidate_of s (Add whole name) = composite_with s whole name
candidate_of s _ = None

-- a composite of no more names than a command may have
abbrev pub HasFewNames : Command → Type 0
HasFewNames (Compose fresh names) = length names ≤ 24
HasFewNames _ = Unit {0}

-- it has more bytes than a composite may have
abbrev pub is_long : Option Rattle.pool_law.specs.Composites.Composite → Bool
is_long None = false
is_long (Some c) = nat_lt most_bytes (size_of c.parts)

-- it is this one
pub record IsMade
    (o : Option Rattle.pool_law.specs.Composites.Composite) (c : Composite) : Type 0
  where
    pub same : o ≡ Some (composite_in c)
    pub parts : vec_len c.parts ≤ 24
    pub size : size_of (map part_of c.parts.items) ≤ most_bytes

-- what was found of it
abbrev pub IsCandidate :
    Option Rattle.pool_law.specs.Composites.Composite → Candidate → Type 0
IsCandidate o Candidate.Missing = o ≡ None
IsCandidate o Candidate.TooLong = IsTrue (is_long o)
IsCandidate o (Candidate.Made c) = IsMade o c

-- its count is within this
abbrev pub CandidateIsBounded : ℕ → Candidate → Type 0
CandidateIsBounded most Candidate.Missing = Unit {0}
CandidateIsBounded most Candidate.TooLong = Unit {0}
CandidateIsBounded most (Candidate.Made c) = c.count ≤ most
