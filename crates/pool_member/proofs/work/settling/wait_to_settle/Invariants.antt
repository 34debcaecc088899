use Rattle.pool_member.specs.Threads.{Settles}
use Rattle.pool_member.proofs.work.settling.wait_to_settle.Given as goal

abbrev pub invariant-loop : goal.invariant-loop
invariant-loop g l = Settles l.pool l.fn.member l.member
