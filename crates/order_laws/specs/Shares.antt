-- Who has the counts of a root at each moment: lanes, and parcels in the mails.
use Rattle.std.specs.Prelude.{◌≡◌, ℕ, ◌+◌, List, ◌++◌, map}
use Rattle.size_classes.specs.Sizes.{below}
use Rattle.pool_law.specs.declared.id.RootId.{RootId}
use Rattle.pool_law.specs.declared.run.Run.{Run}
use Rattle.pool_law.specs.Legal.{logs_of}
use Rattle.pool_law.specs.Logs.{Logs, entries_of}
use Rattle.run_laws.specs.CountLaw.{counts_of}
use Rattle.run_laws.specs.Parcels.{unfetched}
use Rattle.run_order.specs.Order.{InOneOrder, Leave, Step, notes_by}

-- the logs of so many lanes after these steps
abbrev pub front : ℕ → List Step → Logs
front lanes before = map (λ lane. notes_by lane before) (below lanes)

-- these steps leave the counts of a root that the lanes have, and those of the parcels that were
-- posted and not fetched
abbrev pub CountsAreShared : ℕ → List Step → Type 0
CountsAreShared lanes before =
    let logs = front lanes before in
    (root : RootId) → Leave before root (counts_of root (entries_of logs) + unfetched logs root lanes)

-- so it is after each front of a run's steps
abbrev pub FrontsAreShared : (run : Run) → InOneOrder (logs_of run) → Type 0
FrontsAreShared run order =
    (before after : List Step) → order.steps ≡ before ++ after →
    CountsAreShared run.shape.lanes before
