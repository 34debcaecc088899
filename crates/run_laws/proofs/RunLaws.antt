-- What the laws need of a legal run.
use Rattle.std.proofs.Common.{⊎_elim, ◌≡◌, ℕ, [], length, refl, sym, ap, subst, arith, ◌∙◌}
use Rattle.std.specs.Prelude.{◌<◌, map}
use Rattle.std.proofs.lemmas.List.{length-map}
use Rattle.pool_law.specs.declared.run.Run.{Run}
use Rattle.pool_law.specs.declared.note.Object.{Object}
use Rattle.pool_law.specs.Histories.{cache_after}
use Rattle.pool_law.specs.Logs.{of_lane, dids, history_of, entry_of, entries_of}
use Rattle.pool_law.specs.Legal.{IsLegal, logs_of, replies_of}
use Rattle.pool_law.specs.Lives.{RegionsLive}
use Rattle.pool_law.specs.Apart.{LieApart, NeverOverlap}
use Rattle.pool_law.proofs.HistoryLemmas.{log-past}
use Rattle.run_laws.specs.Conserved.{CachesEndEmpty}
use Rattle.run_laws.proofs.Sums.{below-or}
use Rattle.run_laws.proofs.PagedHistories.{paged}
use Rattle.run_laws.proofs.Placed.{is-some}
use Rattle.run_laws.proofs.Acts.{sum_notes, Acts, no-acts}
use Rattle.run_laws.proofs.LaneActs.{AnyNote, any-acts}
use Rattle.run_laws.proofs.LogParts.{Parts, log-parts}
use Rattle.run_laws.proofs.LogEntries.{LanesAct, entries-at}
use Rattle.run_laws.proofs.LifeChain as chain
use Rattle.run_laws.proofs.Births.{used-born}
use Rattle.run_laws.proofs.OverlapLaw.{never-overlap}
use Rattle.run_laws.proofs.ApartLaw.{apart}
use Rattle.run_laws.specs.Parcels.{PostsWithin, TotalsAreShared}
use Rattle.run_laws.proofs.ParcelLaw.{total-shared}
use Rattle.run_laws.proofs.PostLaw.{strays, log-near, posts-within}
use Rattle.run_laws.proofs.EndLaw.{cache-empty, birth-counts}
use Rattle.run_laws.specs.OneLog.{StandInOneLog}
use Rattle.run_laws.proofs.OneLogLaw.{stand-in_one_log}

-- every lane's log is acts
pub acts-of : (run : Run) → IsLegal run → LanesAct (logs_of run)
acts-of run legal lane =
    ⊎_elim
    (λ low.
    subst (λ es. Acts AnyNote es []) (entries-at (logs_of run) (logs_of run) lane)
    (any-acts run.shape lane (of_lane run.trace.lanes lane) (replies_of run lane)
    (of_lane (entries_of (logs_of run)) lane) (legal.answers lane low)))
    (λ high. no-acts (map (entry_of (logs_of run)) (of_lane (logs_of run) lane)) []
    (ap (map (entry_of (logs_of run)))
    (log-past (logs_of run) lane (omega (arith, length-map run.logs (λ l. l.notes), legal.logs, high)))))
    (below-or lane run.shape.lanes)

pub logs-length : (run : Run) → IsLegal run → length (logs_of run) ≡ run.shape.lanes
logs-length run legal = omega (arith, length-map run.logs (λ l. l.notes), legal.logs)

-- each lane's log is what its commands note, and the closing of its caches
pub parts-of : (run : Run) → IsLegal run → (lane : ℕ) → lane < length (logs_of run)
    → Parts lane (map (entry_of (logs_of run)) (of_lane (logs_of run) lane))
parts-of run legal lane low =
    subst (Parts lane) (entries-at (logs_of run) (logs_of run) lane)
    (log-parts run.shape lane (of_lane run.trace.lanes lane) (replies_of run lane)
    (of_lane (entries_of (logs_of run)) lane) (legal.answers lane (omega (arith, low, logs-length run legal))))

pub regions-apart : (run : Run) → IsLegal run → LieApart (logs_of run)
regions-apart run legal =
    apart run.shape (logs_of run) (paged run legal) (acts-of run legal)

pub caches-end_empty : (run : Run) → IsLegal run → CachesEndEmpty run.shape (logs_of run)
caches-end_empty run legal lane class low cached =
    let ends = is-some (cache_after lane class (dids (history_of (Object.Cache lane class) (logs_of run))))
    (legal.histories.accepted (Object.Cache lane class) refl) in (
      ends.0,
      (
        ends.1,
        cache-empty run.shape (logs_of run) (paged run legal) (acts-of run legal) (parts-of run legal)
            lane class ends.0 (omega (arith, low, logs-length run legal)) cached ends.1,
      ),
    )

pub posts-are_near : (run : Run) → IsLegal run → PostsWithin (logs_of run) run.shape.lanes
posts-are_near run legal =
    posts-within (logs_of run) run.shape.lanes
    (λ lane low. ap (sum_notes (strays run.shape.lanes)) (sym (entries-at (logs_of run) (logs_of run) lane))
    ∙ log-near run.shape lane (of_lane run.trace.lanes lane) (replies_of run lane)
    (of_lane (entries_of (logs_of run)) lane) (legal.commands lane).fit
    (legal.answers lane (omega (arith, low, logs-length run legal))))

pub totals-are_shared : (run : Run) → IsLegal run → TotalsAreShared (logs_of run) run.shape.lanes
totals-are_shared run legal root region used =
    total-shared run.shape (logs_of run) legal.histories.stand legal.histories.mails root run.shape.lanes
    (omega (arith, logs-length run legal)) (posts-are_near run legal) legal.counts
    (let b = used-born run.shape (logs_of run) (paged run legal) (acts-of run legal) root region used in
    birth-counts run.shape (logs_of run) (paged run legal) (acts-of run legal) (parts-of run legal) root b.0 b.1)

pub roots-in_one_log : (run : Run) → IsLegal run → StandInOneLog (logs_of run)
roots-in_one_log run legal =
    stand-in_one_log run.shape (logs_of run) (paged run legal) (acts-of run legal) (parts-of run legal) legal.counts

pub regions-live : (run : Run) → IsLegal run → RegionsLive (logs_of run)
regions-live run legal =
    chain.regions-live run.shape (logs_of run) (paged run legal) (acts-of run legal) (parts-of run legal)

pub roots-never_overlap : (run : Run) → IsLegal run → NeverOverlap (logs_of run)
roots-never_overlap run legal = never-overlap (logs_of run) (regions-live run legal) (regions-apart run legal)
