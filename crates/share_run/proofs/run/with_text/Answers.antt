use Rattle.share_run.proofs.OutcomeLaws.{of_input}
use Rattle.share_run.proofs.run.with_text.Goals as goal

pub returns-in-Ok : goal.returns-in-Ok
returns-in-Ok g c = of_input _ _ _ _ c.in-Ok.ensures.reading c.with_input.ensures
