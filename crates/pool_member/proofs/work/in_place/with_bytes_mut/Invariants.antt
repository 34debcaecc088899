use Rattle.std.proofs.Common.{◌≡◌}
use Rattle.pool_member.proofs.Accessing.{Waits}
use Rattle.pool_member.proofs.work.in_place.with_bytes_mut.Given as goal

abbrev pub invariant-loop : goal.invariant-loop
invariant-loop g l = Waits l.pool l.fn.member l.member × (l.f ≡ l.fn.f)
