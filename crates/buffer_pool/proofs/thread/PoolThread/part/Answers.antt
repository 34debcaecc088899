use Rattle.std.proofs.Common.{[], ◌∷◌, Some, subst}
use Rattle.seat_work.specs.Changes.{no_change}
use Rattle.pool_member.specs.declared.member.Member.{Member}
use Rattle.pool_member.specs.Threads.{HasChanged}
use Rattle.pool_member.specs.Windows.{Window}
use Rattle.buffer_pool.proofs.thread.PoolThread.part.Goals as goal

pub returns-clause-changed : goal.returns-clause-changed
returns-clause-changed g c =
    let root = c.buffer.inside.view.at.root in let new = c.part-posted.new.member in
    let changed = subst (λ (m : Member). HasChanged 1 (record no_change { gone = root ∷ [] }) (Some root) m new)
    c.self.view_is c.part-posted.ensures.does.changed in
    subst (λ (w : Window).
    HasChanged 1 (record no_change { gone = w.at.root ∷ [] }) (Some w.at.root) c.args.self.now new) c.buffer.view_is
    changed
