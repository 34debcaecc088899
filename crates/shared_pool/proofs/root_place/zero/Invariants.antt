use Rattle.std.proofs.Common.{◌≡◌}
use Rattle.shared_pool.specs.PlaceSteps.{cleared}
use Rattle.shared_pool.proofs.root_place.zero.Given as goal

abbrev pub invariant-loop-i : goal.invariant-loop-i
invariant-loop-i l = l.bytes ≡ cleared l.i l.initial.bytes
