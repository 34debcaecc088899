use Rattle.shared_pool.proofs.MailMoves.{begins}
use Rattle.shared_pool.proofs.queue.new_queue.Goals as goal

pub ruled-requires-clause-rule : goal.ruled-requires-clause-rule
ruled-requires-clause-rule c = begins
