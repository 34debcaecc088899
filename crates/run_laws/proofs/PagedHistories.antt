-- What the laws need of the histories: they hold, and the page has a size that a page can have.
use Rattle.std.proofs.Common.{ℕ}
use Rattle.std.specs.Prelude.{IsTrue}
use Rattle.std.specs.List.{list_all}
use Rattle.size_classes.specs.Sizes.{IsPage}
use Rattle.pool_law.specs.declared.note.Object.{Object}
use Rattle.pool_law.specs.declared.run.Run.{Run}
use Rattle.pool_law.specs.declared.run.Shape.{Shape}
use Rattle.pool_law.specs.Logs.{Logs, IsHistory, has_history, history_of, dids, of_lane, note_stands}
use Rattle.pool_law.specs.Histories.{IsAccepted}
use Rattle.pool_law.specs.Legal.{IsLegal, logs_of}

pub record HistoriesPaged (shape : Shape) (logs : Logs) : Type 0 where
  pub page : IsPage shape.page
  pub whole : (object : Object) → IsTrue (has_history object) → IsHistory object logs (history_of object logs)
  pub accepted : (object : Object) → IsTrue (has_history object) →
      IsAccepted shape object (dids (history_of object logs))
  pub stand : (lane : ℕ) → IsTrue (list_all (note_stands shape lane) (of_lane logs lane))

pub paged : (run : Run) → IsLegal run → HistoriesPaged run.shape (logs_of run)
paged run legal =
    record {
      page = legal.shape.page;
      whole = legal.histories.whole;
      accepted = legal.histories.accepted;
      stand =
          legal.histories.stand;
    }
