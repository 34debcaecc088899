use Rattle.shared_pool.proofs.MailMoves.{gets}
use Rattle.shared_pool.proofs.queue.pop.Goals as goal

pub pop_under-requires-clause-rule : goal.pop_under-requires-clause-rule
pop_under-requires-clause-rule g c = gets _ _ c.requires.pass.1
