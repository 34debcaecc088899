use Rattle.std.proofs.Common.{subst}
use Rattle.shared_pool.specs.declared.pool.SharedPool.{SharedPool}
use Rattle.pool_member.specs.declared.answers.TryNo.TheVariants.{Busy}
use Rattle.pool_member.specs.declared.member.Member.{Member}
use Rattle.pool_member.specs.Attempts.{LeavesCounted}
use Rattle.pool_member.proofs.Settling.{same_account, settled}
use Rattle.buffer_pool.proofs.thread.PoolThread.try_release.Goals as goal
use Rattle.buffer_pool.proofs.thread.PoolThread.try_release.Goals.{in-Some, in-None}

pub returns-clause-left : goal.returns-clause-left
returns-clause-left g c =
    let pool = c.pool.inside.shared in let old : Member = c.self.inside.member in
    let new = c.try_release.new.member in
    elim c.match-try_release.branch [
      | in-Some w ↦ rw w.result-is tt
      | in-None w ↦
          let settles = w.in-None.ensures.settles in
          let left : LeavesCounted pool old new Busy =
          (same_account pool old new settles, (settled pool old new settles).changed, w.in-None.ensures.cause) in
          rw w.result-is (subst (λ (p : SharedPool). LeavesCounted p c.args.self.now new Busy) c.pool.view_is
          (subst (λ (m : Member). LeavesCounted pool m new Busy) c.self.view_is left))
    ]
