use Rattle.std.proofs.Common.{List, subst}
use Rattle.pool_member.specs.declared.member.Member.{Member}
use Rattle.buffer_pool.specs.Working.{HaveWorked}
use Rattle.buffer_pool.proofs.working.work_as.Goals as goal

pub returns : goal.returns
returns g c =
    let after = c.work_all-threads.result.items in (
      after,
      subst (λ (ms : List Member). HaveWorked (g.W.Work.did c.args.work.now) c.args.shared ms after)
          c.threads_of-threads.ensures c.work_all-threads.ensures,
      c.in-Err.ensures.cause,
    )
