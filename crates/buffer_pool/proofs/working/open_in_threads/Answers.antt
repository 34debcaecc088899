use Rattle.std.proofs.Common.{MatchResult, Result, subst}
use Rattle.pool_member.specs.Closing as closing
use Rattle.pool_member.specs.declared.answers.Closed.{Closed}
use Rattle.pool_member.specs.declared.answers.CloseNo.{CloseNo}
use Rattle.buffer_pool.specs.Working.{IsClosed}
use Rattle.buffer_pool.proofs.Worked.{has_run}
use Rattle.buffer_pool.proofs.working.open_in_threads.Goals as goal

pub returns-in-Ok-Ok-clause-ended : goal.returns-in-Ok-Ok-clause-ended
returns-in-Ok-Ok-clause-ended g c =
    let did = g.W.Work.did c.args.work.now in let end = c.in-Ok-Ok.ensures in let new = c.in-Ok-new_pool.ensures in
    let pool = c.in-Ok-new_pool.shared in let first = c.in-Ok-new_pool.members.items in (
      pool,
      end.0,
      has_run did c.args.config.now pool c.in-Ok.layout first end.0 c.in-Ok.ensures new.layout new.new end.1,
      subst (λ (r : Result Closed CloseNo). MatchResult r (IsClosed pool end.0) (closing.MayRefuse pool end.0))
          c.in-Ok-Ok.field-0-is end.2,
    )

pub returns-in-Ok-Err-clause-cause : goal.returns-in-Ok-Err-clause-cause
returns-in-Ok-Err-clause-cause g c =
    let did = g.W.Work.did c.args.work.now in let end = c.in-Ok-Err.ensures in let new = c.in-Ok-new_pool.ensures in
    let pool = c.in-Ok-new_pool.shared in let first = c.in-Ok-new_pool.members.items in (
      pool,
      end.0,
      has_run did c.args.config.now pool c.in-Ok.layout first end.0 c.in-Ok.ensures new.layout new.new end.1,
      subst (λ (r : Result Closed CloseNo). MatchResult r (IsClosed pool end.0) (closing.MayRefuse pool end.0))
          c.in-Ok-Err.field-0-is end.2,
    )
