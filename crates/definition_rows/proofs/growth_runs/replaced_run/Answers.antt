-- The run and its text are computed.
use Rattle.std.proofs.Common.{refl}
use Rattle.std.specs.Fmt.{digits}
use Rattle.definition_rows.specs.GrowthRuns.{replaced}
use Rattle.definition_rows.proofs.LegalComputed.{legal}
use Rattle.definition_rows.proofs.growth_runs.replaced_run.Goals as goal

pub returns-clause-legal : goal.returns-clause-legal
returns-clause-legal c = legal replaced refl

pub returns-clause-text : goal.returns-clause-text
unfolding digits
returns-clause-text c = refl
