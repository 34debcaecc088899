use Rattle.std.proofs.Common.{None}
use Rattle.seat_work.specs.Changes.{once_less}
use Rattle.pool_member.proofs.Settling.{settled_does}
use Rattle.pool_member.proofs.work.counting.try_release.Goals as goal

pub returns-then-try_settle-clause-does : goal.returns-then-try_settle-clause-does
returns-then-try_settle-clause-does c =
    settled_does c.args.pool.now c.args.member.now c.try_settle.new.member c.try_release_settled.new.member 4
    (once_less c.args.root c.try_release_settled.result) None c.try_settle.ensures.settles
    c.try_release_settled.ensures.does
