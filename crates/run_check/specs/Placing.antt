-- Where a law is broken first.
use Rattle.std.specs.Prelude.{◌≡◌, ℕ, suc, ◌<◌, List, length, take, slice_get}
use Rattle.pool_law.specs.declared.command.Command.{Command}
use Rattle.pool_law.specs.declared.run.LaneLog.{LaneLog}
use Rattle.pool_law.specs.declared.run.Shape.{Shape}
use Rattle.pool_law.specs.LaneLaw.{IsLaneLog}
use Rattle.pool_law.specs.Logs.{of_lane, entries_of}
use Rattle.lane_reader.specs.Unlike.{IsUnlikeAt}
use Rattle.run_check.specs.ByObject.{notes_in, replies_in}
use Rattle.run_check.specs.declared.breach.NoteSpot.{NoteSpot}

-- a law is kept by what stands before this place, and not by that together with what stands there
pub record BreaksAt {X : Type 0} (Keeps : List X → Type 0) (xs : List X) (at : ℕ) : Type 0 where
  pub law : Keeps xs → ⊥
  pub inside : at < length xs
  pub before : Keeps (take at xs)
  pub with_it : Keeps (take (suc at) xs) → ⊥

-- the lanes before this note's keep the law, and this note's lane breaks it at the note
pub record BreaksFirst {X : Type 0}
    (Keeps : ℕ → List X → Type 0) (logs : List (List X)) (spot : NoteSpot) : Type 0 where
  pub earlier : (lane : ℕ) → lane < spot.lane → Keeps lane (of_lane logs lane)
  pub here : BreaksAt (Keeps spot.lane) (of_lane logs spot.lane) spot.at

-- two lists are the same before this place, and not there, where one of them may have ended
pub record DifferAt {X : Type 0} (xs ys : List X) (at : ℕ) : Type 0 where
  pub same : take at xs ≡ take at ys
  pub unlike : slice_get xs at ≡ slice_get ys at → ⊥

-- a lane's replies and notes are those of its commands
abbrev pub IsAnswered : Shape → List (List Command) → List LaneLog → ℕ → Type 0
IsAnswered shape lanes logs lane =
    IsLaneLog shape lane (of_lane lanes lane) (of_lane (replies_in logs) lane)
    (of_lane (entries_of (notes_in logs)) lane)

-- so it is in the lanes before this one, and in this one up to a command
pub record IsAnsweredTo
    (shape : Shape) (lanes : List (List Command)) (logs : List LaneLog) (lane command : ℕ) : Type 0
  where
    pub there : lane < length logs
    pub earlier : (k : ℕ) → k < lane → IsAnswered shape lanes logs k
    pub here :
        IsUnlikeAt shape lane (of_lane lanes lane) (of_lane (replies_in logs) lane)
        (of_lane (entries_of (notes_in logs)) lane) command
