use Rattle.std.proofs.Common.{◌≡◌, replicate, None}
use Rattle.lane_context.proofs.names.Names.new.Given as goal

abbrev pub invariant-loop : goal.invariant-loop
invariant-loop l = l.bound.items ≡ replicate l.counter None
