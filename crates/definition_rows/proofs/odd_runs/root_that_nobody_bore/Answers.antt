-- A root that nobody bore is named.
use Rattle.std.proofs.Common.{◌≡◌, arith, refl}
use Rattle.pool_law.specs.Logs.{of_lane, entries_of}
use Rattle.pool_law.specs.Counts.{names_root, is_birth, count_over}
use Rattle.pool_law.specs.Legal.{logs_of}
use Rattle.definition_rows.specs.LaneRuns.{four}
use Rattle.definition_rows.specs.OddRuns.{circling}
use Rattle.run_order.proofs.Stuck.{in-no_order}
use Rattle.definition_rows.proofs.RootTests.{CountsHold-passes}
use Rattle.definition_rows.proofs.odd_runs.root_that_nobody_bore.Goals as goal

pub returns-clause-first_counts : goal.returns-clause-first_counts
returns-clause-first_counts c = CountsHold-passes four 0 (of_lane (entries_of (logs_of circling)) 0) refl

pub returns-clause-second_counts : goal.returns-clause-second_counts
returns-clause-second_counts c = CountsHold-passes four 0 (of_lane (entries_of (logs_of circling)) 1) refl

pub returns-clause-refused : goal.returns-clause-refused
returns-clause-refused c legal =
    let named : count_over (names_root four) (entries_of (logs_of circling)) ≡ 7 = refl in
    let births : count_over (is_birth four) (entries_of (logs_of circling)) ≡ 0 = refl in
    absurd (omega (arith, births, legal.counts.born four (omega (arith, named))))

pub returns-clause-no_order : goal.returns-clause-no_order
returns-clause-no_order c = in-no_order 24 (logs_of circling) refl
