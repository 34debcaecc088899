use Rattle.std.proofs.Common.{rules}
use Rattle.job_queue.proofs.Relaying.{begins, forks}
use Rattle.job_queue.proofs.jobs.new_queue.Goals as goal

pub ruled-requires-clause-rule : goal.ruled-requires-clause-rule
ruled-requires-clause-rule c = begins

pub another-receiver-requires-clause-rule : goal.another-receiver-requires-clause-rule
another-receiver-requires-clause-rule c = forks _ _ (search rules) (search rules)
