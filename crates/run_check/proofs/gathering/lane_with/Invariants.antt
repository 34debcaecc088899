use Rattle.std.proofs.Common.{ℕ, ◌<◌}
use Rattle.run_check.specs.Gathering.{left_of, HasNext}
use Rattle.run_check.proofs.gathering.lane_with.Given as goal

abbrev pub invariant-loop-lane : goal.invariant-loop-lane
invariant-loop-lane l = (k : ℕ) → k < l.lane → HasNext l.number (left_of l.left k) → ⊥
