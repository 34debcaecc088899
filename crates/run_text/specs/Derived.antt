-- Which runs a text determines, with their trace and shape.
use Rattle.std.specs.Prelude.{◌<◌, ◌^◌, List, [], map}
use Rattle.std.specs.List.{All}
use Rattle.pool_law.specs.declared.run.Answered.{Answered}
use Rattle.pool_law.specs.declared.run.Reply.{Reply}
use Rattle.pool_law.specs.declared.run.Run.{Run}
use Rattle.pool_law.specs.LaneLaw.{replies_in}
use Rattle.pool_law.specs.Legal.{logs_of}
use Rattle.run_check.specs.Cutting.{AreLaneLogs}
use Rattle.run_text.specs.Answering.{FitLanes}
use Rattle.run_text.specs.Ending.{FitsChunk, FitsLeak}
use Rattle.run_text.specs.Lines.{AreTold, Line, told_from}

-- each command made fewer notes than a number of 32 bits can say
abbrev pub AreFew : List Answered → Type 0
AreFew answered = All (λ a. a.notes < 2 ^ 32) answered

-- what the lanes answered
abbrev pub answers_of : Run → List (List Answered)
answers_of run = map (λ log. log.replies) run.logs

-- the replies alone, as the text shows them
abbrev pub replies_told : Run → List (List Reply)
replies_told run = map (λ log. replies_in log.replies) run.logs

-- all notes of a run, each with its lane, as its text shows them
abbrev pub lines_in : Run → List Line
lines_in run = told_from 0 (logs_of run)

-- the numbers of a run's answers and reports, and the bytes that it shows, are of their types
pub record Fits (run : Run) : Type 0 where
  pub replies : FitLanes run.trace.lanes (replies_told run)
  pub counts : All AreFew (answers_of run)
  pub chunks : All FitsChunk run.chunks
  pub leaks : All FitsLeak run.leaks

-- a run that its text determines, with its trace and shape: the lanes' logs are of the law, by which
-- each command has its own notes; what the line of a note leaves out of a root or a region, other lines
-- say; and all numbers are of their types
pub record IsDerived (run : Run) : Type 0 where
  pub law : AreLaneLogs run.shape run.trace.lanes (answers_of run) (logs_of run)
  pub told : AreTold run.shape.arenas (lines_in run) [] (lines_in run)
  pub fits : Fits run
