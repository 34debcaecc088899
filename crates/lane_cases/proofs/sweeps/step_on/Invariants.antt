use Rattle.lane_core.specs.Lanes.{IsLane}
use Rattle.lane_cases.proofs.sweeps.step_on.Given as goal

abbrev pub invariant-loop-step : goal.invariant-loop-step
invariant-loop-step g l = IsLane l.pool l.lane
