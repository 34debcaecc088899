use Rattle.std.proofs.Common.{ap}
use Rattle.job_queue.proofs.Relaying.{gets}
use Rattle.job_queue.proofs.jobs.pop.Goals as goal

pub pop_as-requires-clause-rule : goal.pop_as-requires-clause-rule
pop_as-requires-clause-rule g c = (gets _ _ (ap (λ v. v.pops) c.requires.may), λ items views h at. tt)
