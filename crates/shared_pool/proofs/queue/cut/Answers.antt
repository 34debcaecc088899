use Rattle.shared_pool.proofs.MailMoves.{names}
use Rattle.shared_pool.proofs.queue.cut.Goals as goal

pub another-requires-clause-rule : goal.another-requires-clause-rule
another-requires-clause-rule g c = names _ _ _ _ _ _ c.requires.pass.1
