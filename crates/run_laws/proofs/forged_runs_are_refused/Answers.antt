use Rattle.run_laws.proofs.ForgedRuns.{stale-read, swapped-read, early-read, unnoted-set, past-read, touch-read, turned-leaks}
use Rattle.run_laws.proofs.forged_runs_are_refused.Goals as goal

pub returns-clause-stale : goal.returns-clause-stale
returns-clause-stale c = stale-read

pub returns-clause-swapped : goal.returns-clause-swapped
returns-clause-swapped c = swapped-read

pub returns-clause-read_early : goal.returns-clause-read_early
returns-clause-read_early c = early-read

pub returns-clause-set_unnoted : goal.returns-clause-set_unnoted
returns-clause-set_unnoted c = unnoted-set

pub returns-clause-read_past : goal.returns-clause-read_past
returns-clause-read_past c = past-read

pub returns-clause-touched : goal.returns-clause-touched
returns-clause-touched c = touch-read

pub returns-clause-leaks_turned : goal.returns-clause-leaks_turned
returns-clause-leaks_turned c = turned-leaks
