use Rattle.pool_member.proofs.Settling.{settles_on}
use Rattle.pool_member.proofs.work.settling.wait_to_settle.Goals as goal

pub returns-then-try_settle-clause-settles : goal.returns-then-try_settle-clause-settles
returns-then-try_settle-clause-settles g c =
    settles_on c.args.pool.now c.args.member.now c.loop.member c.try_settle.new.member c.loop.invariant
    c.try_settle.ensures.settles

pub loop-preserved : goal.loop-preserved
loop-preserved g c =
    settles_on c.args.pool.now c.args.member.now c.loop.member c.try_settle.new.member c.loop.invariant
    c.try_settle.ensures.settles
