use Rattle.std.proofs.Common.{sym}
use Rattle.trace_top.proofs.Explain.{of_options}
use Rattle.trace_top.proofs.top.answer.Goals as goal

pub returns-in-Some-clause-outcome : goal.returns-in-Some-clause-outcome
returns-in-Some-clause-outcome g c = of_options _ _ _ _ _ _ (sym c.in-Some.ensures.value) c.with_options.ensures.outcome
