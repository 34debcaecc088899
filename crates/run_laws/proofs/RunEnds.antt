-- What returns in a legal run, and what is out at its end.
use Rattle.std.proofs.Common.{refl}
use Rattle.pool_law.specs.declared.run.Run.{Run}
use Rattle.pool_law.specs.declared.note.Object.{Object}
use Rattle.pool_law.specs.Histories.{arena_after}
use Rattle.pool_law.specs.Logs.{dids, history_of}
use Rattle.pool_law.specs.Legal.{IsLegal, logs_of}
use Rattle.run_laws.specs.Conserved.{RegionsReturn, OutAtEnd}
use Rattle.run_laws.proofs.PagedHistories.{paged}
use Rattle.run_laws.proofs.Placed.{is-some}
use Rattle.run_laws.proofs.ReturnsLaw.{returns-once}
use Rattle.run_laws.proofs.OutLaw.{out-at_end}
use Rattle.run_laws.proofs.RunLaws.{acts-of, parts-of}

pub regions-return : (run : Run) → IsLegal run → RegionsReturn (logs_of run)
regions-return run legal root region used =
    returns-once run.shape (logs_of run) (paged run legal) (acts-of run legal) (parts-of run legal) legal.counts root
    region used

pub arenas-end : (run : Run) → IsLegal run → OutAtEnd run.shape (logs_of run)
arenas-end run legal number =
    let ends = is-some (arena_after run.shape number (dids (history_of (Object.Arena number) (logs_of run))))
    (legal.histories.accepted (Object.Arena number) refl) in (
      ends.0,
      (
        ends.1,
        out-at_end run.shape (logs_of run) (paged run legal) (acts-of run legal) (parts-of run legal) legal.counts
            number ends.0 ends.1,
      ),
    )
