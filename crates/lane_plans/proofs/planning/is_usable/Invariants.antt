use Rattle.std.proofs.Common.{◌<◌, take}
use Rattle.std.specs.Prelude.{All}
use Rattle.lane_stages.specs.Counting.{counted}
use Rattle.lane_plans.proofs.planning.is_usable.Given as goal

abbrev pub invariant-loop-k : goal.invariant-loop-k
invariant-loop-k l = All (λ p. 0 < counted l.counts p.root) (take l.k l.parts)
