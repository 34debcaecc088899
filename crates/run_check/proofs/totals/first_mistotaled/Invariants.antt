use Rattle.std.proofs.Common.{ℕ, ◌<◌}
use Rattle.pool_law.specs.Logs.{of_lane}
use Rattle.run_check.specs.ByObject.{notes_in}
use Rattle.run_check.specs.Tallying.{BirthsHold}
use Rattle.run_check.proofs.totals.first_mistotaled.Given as goal

abbrev pub invariant-loop-log : goal.invariant-loop-log
invariant-loop-log l = (k : ℕ) → k < l.log-index → BirthsHold l.tallies (of_lane (notes_in l.logs) k)
