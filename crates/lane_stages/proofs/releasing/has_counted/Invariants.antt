use Rattle.std.proofs.Common.{take}
use Rattle.lane_stages.specs.Releasings.{AreUncounted}
use Rattle.lane_stages.proofs.releasing.has_counted.Given as goal

abbrev pub invariant-loop-part : goal.invariant-loop-part
invariant-loop-part l = AreUncounted l.counts (take l.part-index l.parts)
