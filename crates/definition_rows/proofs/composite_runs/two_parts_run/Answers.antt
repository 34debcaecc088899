-- The run and its text are computed.
use Rattle.std.proofs.Common.{refl}
use Rattle.std.specs.Fmt.{digits}
use Rattle.definition_rows.specs.CompositeRuns.{two_parts}
use Rattle.definition_rows.proofs.LegalComputed.{legal}
use Rattle.definition_rows.proofs.composite_runs.two_parts_run.Goals as goal

pub returns-clause-legal : goal.returns-clause-legal
returns-clause-legal c = legal two_parts refl

pub returns-clause-text : goal.returns-clause-text
unfolding digits
returns-clause-text c = refl
