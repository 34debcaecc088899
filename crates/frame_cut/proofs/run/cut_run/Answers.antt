use Rattle.std.proofs.Common.{refl}
use Rattle.frame_cut.proofs.OutcomeLaws.{completes, refuses}
use Rattle.frame_cut.proofs.run.cut_run.Goals as goal

pub returns-clause-completes : goal.returns-clause-completes
returns-clause-completes g c = completes _ _ _ _ _ refl c.outcome_of.ensures.outcome

pub returns-clause-refuses : goal.returns-clause-refuses
returns-clause-refuses g c = refuses _ _ _ _ _ c.outcome_of.ensures.outcome
