use Rattle.shared_pool.proofs.MailMoves.{stood}
use Rattle.shared_pool.proofs.queue.pop_under.Goals as goal

pub pop_as-requires-clause-rule : goal.pop_as-requires-clause-rule
pop_as-requires-clause-rule g c = (c.requires.rule, stood _ _ _)
