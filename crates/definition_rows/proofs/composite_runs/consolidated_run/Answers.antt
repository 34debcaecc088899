-- The run and its text are computed.
use Rattle.std.proofs.Common.{refl}
use Rattle.std.specs.Fmt.{digits}
use Rattle.definition_rows.specs.CompositeRuns.{consolidated}
use Rattle.definition_rows.proofs.LegalComputed.{legal}
use Rattle.definition_rows.proofs.composite_runs.consolidated_run.Goals as goal

pub returns-clause-legal : goal.returns-clause-legal
returns-clause-legal c = legal consolidated refl

pub returns-clause-text : goal.returns-clause-text
unfolding digits
returns-clause-text c = refl
