use Rattle.text_ends.proofs.Readings.{unread}
use Rattle.trace_top.proofs.Explain.{of_generated, of_source}
use Rattle.trace_top.proofs.top.with_options.Goals as goal

pub returns-in-Source-clause-outcome : goal.returns-in-Source-clause-outcome
returns-in-Source-clause-outcome g c = of_source _ _ _ _ _ c.in-Source.is c.with_source.ensures.outcome

pub returns-in-Generated-clause-outcome : goal.returns-in-Generated-clause-outcome
returns-in-Generated-clause-outcome g c =
    of_generated _ _ _ _ _ _ c.in-Generated.is (unread _ _, c.with_generation.ensures.outcome)
