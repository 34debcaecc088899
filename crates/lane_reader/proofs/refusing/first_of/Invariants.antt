use Rattle.std.proofs.Common.{◌≡◌, drop, map}
use Rattle.pool_law.specs.Refusals.{first_refusal}
use Rattle.lane_reader.specs.Refusing.{refusal_of}
use Rattle.lane_reader.proofs.refusing.first_of.Given as goal

abbrev pub invariant-loop-refused : goal.invariant-loop-refused
invariant-loop-refused l =
    first_refusal (map refusal_of (drop l.refused-index l.refusals)) ≡ first_refusal (map refusal_of l.refusals)
