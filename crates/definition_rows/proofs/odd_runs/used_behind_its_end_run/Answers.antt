-- The run is computed, and that no order fits it.
use Rattle.std.proofs.Common.{refl}
use Rattle.pool_law.specs.Legal.{logs_of}
use Rattle.run_order.proofs.Stuck.{in-no_order}
use Rattle.definition_rows.specs.DisorderedRuns.{used_behind_its_end}
use Rattle.definition_rows.proofs.LegalComputed.{legal}
use Rattle.definition_rows.proofs.odd_runs.used_behind_its_end_run.Goals as goal

pub returns : goal.returns
returns c =
    record {
      legal = legal used_behind_its_end refl;
      no_order = in-no_order 24 (logs_of used_behind_its_end) refl;
    }
