use Rattle.std.proofs.Common.{None, subst}
use Rattle.seat_work.specs.Changes.{once_more}
use Rattle.pool_member.specs.declared.member.Member.{Member}
use Rattle.pool_member.specs.Threads.{HasChanged}
use Rattle.buffer_pool.proofs.thread.PoolThread.accept.Goals as goal

pub returns-clause-changed : goal.returns-clause-changed
returns-clause-changed g c =
    let new = c.accept-at.new.member in
    subst (λ (m : Member). HasChanged 1 (once_more c.accept-at.result.root) None m new) c.self.view_is
    c.accept-at.ensures.does.changed
