use Rattle.std.proofs.Common.{sym}
use Rattle.frame_cut.proofs.OutcomeLaws.{of_stream, without_form}
use Rattle.frame_cut.proofs.run.outcome_of.Goals as goal

pub returns-in-Some-clause-outcome : goal.returns-in-Some-clause-outcome
returns-in-Some-clause-outcome g c =
    of_stream _ _ _ _ _ c.in-Some.options (sym c.in-Some.ensures.value) c.with_options.ensures

pub returns-in-None-clause-outcome : goal.returns-in-None-clause-outcome
returns-in-None-clause-outcome g c =
    without_form c.failed.result _ _ _ _ _ _ c.failed.ensures (sym c.in-None.ensures.value)
