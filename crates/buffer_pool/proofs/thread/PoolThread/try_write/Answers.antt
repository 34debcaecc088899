use Rattle.std.proofs.Common.{subst}
use Rattle.pool_law.specs.Views.{root_index}
use Rattle.pool_member.specs.Alone.{LaysOver}
use Rattle.pool_member.specs.Windows.{Window}
use Rattle.buffer_pool.proofs.thread.PoolThread.try_write.Goals as goal

pub returns-clause-laid : goal.returns-clause-laid
returns-clause-laid g c =
    let b = c.args.buffer.now in
    subst (λ (w : Window).
    LaysOver b.at.root (root_index b.at w.at.writer) c.args.bytes.now c.args.self.now c.try_set.new.self)
    c.buffer.view_is c.in_ok-try_set.ensures.laid
