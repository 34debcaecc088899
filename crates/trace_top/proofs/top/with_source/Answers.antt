use Rattle.trace_top.proofs.Explain.{of_text}
use Rattle.trace_top.proofs.top.with_source.Goals as goal

pub returns-in-Text-clause-outcome : goal.returns-in-Text-clause-outcome
returns-in-Text-clause-outcome g c =
    let explained = rw c.deref.ensures.value at c.with_text.ensures.outcome in
    of_text _ _ _ c.in-Text.text.items _ _ c.in-Text.ensures.0 c.in-Text.ensures.1 explained
