-- A run that breaks a part of the law isn't legal.
use Rattle.std.proofs.Common.{◌≡◌, Bool, true, false, List, Option, Some, None, refl, ap, arith}
use Rattle.std.specs.Prelude.{◌↔◌, not, slice_get, is_some, MatchOption, IsTrue}
use Rattle.pool_law.specs.declared.note.Object.{Object}
use Rattle.pool_law.specs.declared.note.Object.TheVariants.{Arena, Cache, Bin, Mail, Root}
use Rattle.pool_law.specs.declared.report.ChunkEnd.{ChunkEnd}
use Rattle.pool_law.specs.declared.report.Leak.{Leak}
use Rattle.pool_law.specs.declared.run.Run.{Run}
use Rattle.pool_law.specs.declared.run.Shape.{Shape}
use Rattle.pool_law.specs.Legal.{HistoriesHold, IsLegal, logs_of}
use Rattle.pool_law.specs.Logs.{Logs}
use Rattle.pool_law.specs.Mails.{MailsHold}
use Rattle.pool_law.specs.Counts.{names_root}
use Rattle.run_check.proofs.TotalLemmas.{lane-over}
use Rattle.run_check.specs.Breaches.{Breaks, lane_entries}
use Rattle.run_check.specs.Mailing.{IsHeldMail}
use Rattle.run_check.specs.Storing.{ObjectHolds}
use Rattle.run_check.specs.declared.breach.Breach.{Breach}
use Rattle.run_check.specs.declared.breach.Breach.TheVariants.{Measures, Lanes, Commands, History, Notes, Marks, Chunks, Answers, Uses, Totals, Unborn, Looks, Leaks}

mail-held : (logs : Logs) → MailsHold logs → (object : Object) → IsHeldMail logs object
mail-held logs mails (Arena number) = tt
mail-held logs mails (Cache lane class) = tt
mail-held logs mails (Bin lane) = tt
mail-held logs mails (Mail sender receiver) = mails sender receiver
mail-held logs mails (Root place) = tt

pub object-holds : (shape : Shape) (logs : Logs) → HistoriesHold shape logs → (object : Object) →
    ObjectHolds shape logs object
object-holds shape logs holds object = record {
  whole = holds.whole object;
  accepted = holds.accepted object;
  mail = mail-held logs holds.mails object;
}

pub breaks-illegal : (run : Run) (b : Breach) → Breaks run b → IsLegal run → ⊥
breaks-illegal run Measures broken legal = broken legal.shape
breaks-illegal run Lanes broken legal = broken (legal.lanes, legal.logs)
breaks-illegal run Commands broken legal = broken legal.commands
breaks-illegal run (History object number) broken legal =
    broken.law (object-holds run.shape (logs_of run) legal.histories object)
breaks-illegal run (Notes spot) broken legal = broken.here.law (legal.histories.stand spot.lane)
breaks-illegal run (Marks spot) broken legal = broken.here.law (legal.busy spot.lane)
breaks-illegal run (Chunks at) broken legal = broken.unlike (ap (λ (xs : List ChunkEnd). slice_get xs at) legal.chunks)
breaks-illegal run (Answers lane command) broken legal =
    broken.here.law (legal.answers lane (omega (arith, broken.there, legal.logs)))
breaks-illegal run (Uses spot) broken legal = broken.here.law (λ root. legal.counts.lanes root spot.lane)
breaks-illegal run (Totals root) broken legal = broken.1 (legal.counts.totals root broken.0)
breaks-illegal run (Unborn spot) broken legal =
    broken.here.law (λ root some.
    legal.counts.born root (lane-over (names_root root) (lane_entries run) spot.lane some))
breaks-illegal run (Looks spot) broken legal = broken.here.law (λ root. legal.counts.looks root spot.lane)
breaks-illegal run (Leaks at) broken legal = broken.unlike (ap (λ (xs : List Leak). slice_get xs at) legal.leaks)

-- nothing that is broken is found exactly of a legal run
pub none-legal : (run : Run) (found : Option Breach) (good : Bool) → is_some found ≡ not good →
    MatchOption found (IsLegal run) (Breaks run) → IsTrue good ↔ IsLegal run
none-legal run None true is legal = (λ _. legal, λ _. refl)
none-legal run None false is legal = absurd (cc is)
none-legal run (Some b) true is broken = absurd (cc is)
none-legal run (Some b) false is broken = (λ e. absurd (cc e), λ legal. absurd (breaks-illegal run b broken legal))
