-- What is asked of a run beside its measures, its commands and the histories of its objects.
use Rattle.std.specs.Prelude.{◌≡◌, ℕ, ◌<◌, IsTrue}
use Rattle.std.specs.List.{list_all}
use Rattle.size_classes.specs.Sizes.{below}
use Rattle.pool_law.specs.declared.run.Run.{Run}
use Rattle.pool_law.specs.Logs.{of_lane, note_stands, history_of, entries_of}
use Rattle.pool_law.specs.Busy.{BusyHolds}
use Rattle.pool_law.specs.LaneLaw.{IsLaneLog}
use Rattle.pool_law.specs.Leaks.{leaks_of}
use Rattle.pool_law.specs.Legal.{CountsAgree, logs_of, replies_of, ends_from}

-- the sentences on counts hold, and the live roots are reported
pub record CountsRight (run : Run) : Type 0 where
  pub counts : CountsAgree (entries_of (logs_of run))
  pub leaks : run.leaks ≡ leaks_of run.shape (logs_of run)

-- each lane may note what it notes, marks are right, and the chunks at the end are reported
pub record NotesRight (run : Run) : Type 0 where
  pub stand : (lane : ℕ) →
      IsTrue (list_all (note_stands run.shape lane) (of_lane (logs_of run) lane))
  pub busy : (lane : ℕ) →
      BusyHolds lane (λ object. history_of object (logs_of run)) (of_lane (logs_of run) lane)
  pub chunks : run.chunks ≡ ends_from run.shape (logs_of run) (below run.shape.arenas)

-- the replies and notes of each lane are those of its commands
abbrev pub AnswersRight : Run → Type 0
AnswersRight run =
    (lane : ℕ) → lane < run.shape.lanes →
    IsLaneLog run.shape lane (of_lane run.trace.lanes lane) (replies_of run lane)
    (of_lane (entries_of (logs_of run)) lane)
