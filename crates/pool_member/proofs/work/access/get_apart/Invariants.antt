use Rattle.std.proofs.Common.{◌≡◌, length}
use Rattle.pool_member.proofs.Accessing.{Waits}
use Rattle.pool_member.proofs.work.access.get_apart.Given as goal

abbrev pub invariant-loop : goal.invariant-loop
invariant-loop g l = Waits l.pool l.fn.member l.member × (length l.out ≡ length l.fn.out)
