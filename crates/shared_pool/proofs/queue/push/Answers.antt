use Rattle.shared_pool.proofs.MailMoves.{sends, counts}
use Rattle.shared_pool.proofs.queue.push.Goals as goal

pub push_as-requires-clause-rule : goal.push_as-requires-clause-rule
push_as-requires-clause-rule g c =
    (sends _ _ _ _ c.requires.pass.1 c.requires.letter c.requires.room, counts _ _ c.requires.pass.1)
