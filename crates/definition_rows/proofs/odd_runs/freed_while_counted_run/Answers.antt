-- The run is computed, and that no order fits it.
use Rattle.std.proofs.Common.{refl}
use Rattle.pool_law.specs.Legal.{logs_of}
use Rattle.run_order.proofs.Stuck.{in-no_order}
use Rattle.definition_rows.specs.OddRuns.{freed_while_counted}
use Rattle.definition_rows.proofs.LegalComputed.{legal}
use Rattle.definition_rows.proofs.odd_runs.freed_while_counted_run.Goals as goal

pub returns : goal.returns
returns c =
    record {
      legal = legal freed_while_counted refl;
      no_order = in-no_order 24 (logs_of freed_while_counted) refl;
    }
