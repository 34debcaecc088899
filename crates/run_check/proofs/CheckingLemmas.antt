-- What is asked of a run holds by what the program keeps of it.
use Rattle.std.proofs.Common.{◌≡◌, ℕ, true, List, Option, Some, None, Vec, length, sym, subst}
use Rattle.std.specs.Prelude.{IsTrue, MatchOption}
use Rattle.std.specs.declared.alloc.Global.{Global}
use Rattle.std.specs.List.{list_all}
use Rattle.pool_law.specs.declared.note.Note.{Note}
use Rattle.pool_law.specs.declared.note.Object.{Object}
use Rattle.pool_law.specs.declared.run.Shape.{Shape}
use Rattle.pool_law.specs.Logs.{Logs, History, dids, of_lane, note_stands, has_history, IsHistory, history_of}
use Rattle.pool_law.specs.Histories.{IsAccepted}
use Rattle.pool_law.specs.Busy.{BusyHolds}
use Rattle.pool_law.specs.declared.run.LaneLog.{LaneLog}
use Rattle.pool_law.specs.declared.run.Run.{Run}
use Rattle.pool_law.specs.Limits.{IsShape}
use Rattle.pool_law.specs.Legal.{HistoriesHold, AreCommands, IsLegal, logs_of}
use Rattle.run_check.specs.Checking.{CountsRight, NotesRight, AnswersRight}
use Rattle.pool_law.proofs.HistoryLemmas.{history_of-is}
use Rattle.run_check.specs.declared.histories.Histories.{Histories}
use Rattle.object_steps.specs.declared.told.PlaceTold.{PlaceTold}
use Rattle.run_check.specs.ByObject.{notes_in}
use Rattle.run_check.specs.Breaches.{Breaks}
use Rattle.run_check.specs.declared.breach.Breach.{Breach}
use Rattle.run_check.specs.Storing.{history_in, AreHistories}
use Rattle.run_check.specs.Entering.{AreTold}
use Rattle.run_check.proofs.MarkLemmas.{marks-same}

module _ (shape : Shape) (logs : Logs) (m : Histories) (are : AreHistories shape logs m) where
  history-is : (object : Object) → has_history object ≡ true → history_of object logs ≡ history_in m object
  history-is object has = history_of-is object logs (history_in m object) (are.whole object has)

  pub busy-on : (lane : ℕ) (ns : List Note) → IsTrue (list_all (note_stands shape lane) ns) →
      BusyHolds lane (history_in m) ns → BusyHolds lane (λ object. history_of object logs) ns
  busy-on lane ns stand b = record {
    fit = b.fit;
    marks =
        marks-same shape lane (history_in m) (λ object. history_of object logs)
        (λ object has. sym (history-is object has)) ns stand b.marks;
  }

  pub busy-back : (lane : ℕ) (ns : List Note) → IsTrue (list_all (note_stands shape lane) ns) →
      BusyHolds lane (λ object. history_of object logs) ns → BusyHolds lane (history_in m) ns
  busy-back lane ns stand b = record {
    fit = b.fit;
    marks =
        marks-same shape lane (λ object. history_of object logs) (history_in m) history-is ns stand b.marks;
  }

  pub histories-hold : ((lane : ℕ) → IsTrue (list_all (note_stands shape lane) (of_lane logs lane))) →
      HistoriesHold shape logs
  histories-hold stand = record {
    whole = λ object has.
        subst (λ (h : History). IsHistory object logs h) (sym (history-is object has)) (are.whole object has);
    accepted = λ object has.
        subst (λ (h : History). IsAccepted shape object (dids h)) (sym (history-is object has))
        (are.accepted object has);
    mails = are.mails;
    stand = stand;
  }

-- what is asked of a run is that it is legal
pub legal-is : (run : Run) (m : Histories) → IsShape run.shape → length run.trace.lanes ≡ run.shape.lanes →
    length run.logs ≡ run.shape.lanes → ((lane : ℕ) → AreCommands run.shape (of_lane run.trace.lanes lane)) →
    AreHistories run.shape (logs_of run) m → NotesRight run → AnswersRight run → CountsRight run → IsLegal run
legal-is run m shape lanes logs commands are notes answers counts = record {
  shape = shape;
  lanes = lanes;
  logs = logs;
  commands = commands;
  histories = histories-hold run.shape (logs_of run) m are notes.stand;
  counts = counts.counts;
  answers = answers;
  busy = notes.busy;
  chunks = notes.chunks;
  leaks = counts.leaks;
}

-- where the counts are right as the rest is, the run is legal
pub legal-found : (run : Run) (found : Option Breach) → (CountsRight run → IsLegal run) →
    MatchOption found (CountsRight run) (Breaks run) → MatchOption found (IsLegal run) (Breaks run)
legal-found run None legal right = legal right
legal-found run (Some breach) legal broken = broken

-- what is told by the histories is told of the logs
pub told-are : (shape : Shape) (read logs : List LaneLog) (m : Histories) → read ≡ logs →
    (pushed told : List (Vec PlaceTold Global)) → told ≡ pushed → AreHistories shape (notes_in logs) m →
    ((s : Shape) → AreHistories s (notes_in read) m → AreTold (notes_in read) pushed read) →
    AreTold (notes_in logs) told logs
told-are shape read logs m same pushed told is are tells =
    subst (λ (ts : List (Vec PlaceTold Global)). AreTold (notes_in logs) ts logs) (sym is)
    (subst
    (λ (ls : List LaneLog). ((s : Shape) → AreHistories s (notes_in ls) m → AreTold (notes_in ls) pushed ls)) same
    tells shape are)
