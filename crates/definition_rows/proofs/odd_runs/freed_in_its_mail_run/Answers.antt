-- The run is computed, and that no order fits it.
use Rattle.std.proofs.Common.{refl}
use Rattle.pool_law.specs.Legal.{logs_of}
use Rattle.run_order.proofs.Stuck.{in-no_order}
use Rattle.definition_rows.specs.DisorderedRuns.{freed_in_its_mail}
use Rattle.definition_rows.proofs.LegalComputed.{legal}
use Rattle.definition_rows.proofs.odd_runs.freed_in_its_mail_run.Goals as goal

pub returns : goal.returns
returns c =
    record {
      legal = legal freed_in_its_mail refl;
      no_order = in-no_order 24 (logs_of freed_in_its_mail) refl;
    }
