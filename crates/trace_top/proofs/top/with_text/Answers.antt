use Rattle.trace_top.proofs.Explain.{of_run}
use Rattle.trace_top.proofs.top.with_text.Goals as goal

pub returns-in-Ok-clause-outcome : goal.returns-in-Ok-clause-outcome
returns-in-Ok-clause-outcome g c = of_run _ _ _ _ _ _ c.in-Ok.ensures.reading c.with_trace.ensures.outcome
