use Rattle.share_run.proofs.OutcomeLaws.{completes, refuses}
use Rattle.share_run.proofs.run.share_run.Goals as goal

pub returns-clause-refuses : goal.returns-clause-refuses
returns-clause-refuses g c = refuses _ _ _ _ c.status_of.ensures.outcome

pub returns-clause-completes : goal.returns-clause-completes
returns-clause-completes g c = completes _ _ _ _ c.status_of.ensures.outcome
