use Rattle.trace_top.proofs.workers.stepped.Goals as goal

pub returns-clause-lanes : goal.returns-clause-lanes
returns-clause-lanes g c i l e = let at = c.step_together.ensures.machines i l e in (at.0, at.1, at.2.1)
