-- How many notes each command of each lane made.
use Rattle.std.specs.Prelude.{◌≡◌, ℕ, ◌<◌, List, length, map, Vec}
use Rattle.std.specs.declared.alloc.Global.{Global}
use Rattle.pool_law.specs.declared.command.Command.{Command}
use Rattle.pool_law.specs.declared.run.Answered.{Answered}
use Rattle.pool_law.specs.declared.run.Reply.{Reply}
use Rattle.pool_law.specs.declared.run.Shape.{Shape}
use Rattle.pool_law.specs.LaneLaw.{IsLaneLog}
use Rattle.pool_law.specs.Legal.{AreCommands, HistoriesHold}
use Rattle.pool_law.specs.Limits.{IsShape}
use Rattle.pool_law.specs.Logs.{Logs, of_lane, entries_of}
use Rattle.lane_reader.specs.Cutting.{AreNoteCounts}

-- the pool that has these measures gives these lanes these answers and logs: each lane's are those of
-- its commands, and the histories of the objects hold. Of counts, marks and reports nothing is said
pub record AreLaneLogs
    (shape : Shape) (lanes : List (List Command)) (answered : List (List Answered)) (logs : Logs) :
    Type 0
  where
    pub measures : IsShape shape
    pub asked : length lanes ≡ shape.lanes
    pub replied : length answered ≡ shape.lanes
    pub logged : length logs ≡ shape.lanes
    pub commands : (lane : ℕ) → AreCommands shape (of_lane lanes lane)
    pub histories : HistoriesHold shape logs
    pub answers : (lane : ℕ) → lane < shape.lanes →
        IsLaneLog shape lane (of_lane lanes lane) (of_lane answered lane)
        (of_lane (entries_of logs) lane)

-- the counts of each lane
abbrev pub counts_in : List (Vec ℕ Global) → List (List ℕ)
counts_in cuts = map (λ counts. counts.items) cuts

-- the replies of each lane
abbrev pub lists_in : List (Vec Reply Global) → List (List Reply)
lists_in replies = map (λ list. list.items) replies

-- by these counts the commands of a lane have their replies and notes
abbrev pub AreCuts :
    Shape → List (List Command) → List (List Reply) → Logs → List (List ℕ) → ℕ → Type 0
AreCuts shape lanes replies logs cuts lane =
    (length (of_lane cuts lane) ≡ length (of_lane lanes lane))
    × AreNoteCounts shape lane (of_lane lanes lane) (of_lane replies lane)
    (of_lane (entries_of logs) lane) (of_lane cuts lane)
