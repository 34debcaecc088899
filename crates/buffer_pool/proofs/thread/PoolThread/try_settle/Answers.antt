use Rattle.std.proofs.Common.{None, subst}
use Rattle.seat_work.specs.Changes.{no_change}
use Rattle.pool_member.specs.declared.member.Member.{Member}
use Rattle.pool_member.specs.Threads.{HasChanged}
use Rattle.pool_member.proofs.Settling.{settled}
use Rattle.buffer_pool.proofs.thread.PoolThread.try_settle.Goals as goal

pub returns-clause-changed : goal.returns-clause-changed
returns-clause-changed g c =
    let old : Member = c.self.inside.member in let new = c.try_settle.new.member in
    subst (λ (m : Member). HasChanged 0 no_change None m new) c.self.view_is
    (settled c.pool.inside.shared old new c.try_settle.ensures.settles).changed
