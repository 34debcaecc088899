use Rattle.std.proofs.Common.{◌≡◌, drop, map}
use Rattle.pool_law.specs.LaneStates.{LaneState}
use Rattle.pool_law.specs.Refusals.{unbound}
use Rattle.lane_reader.specs.Refusing.{some_comes}
use Rattle.lane_reader.specs.Standing.{IsLane}
use Rattle.lane_reader.proofs.lane.Lane.some_unbound.Given as goal

abbrev pub invariant-loop-name : goal.invariant-loop-name
invariant-loop-name l =
    (s : LaneState) → IsLane l.self s →
    some_comes (map (unbound s) (drop l.name-index l.names)) ≡ some_comes (map (unbound s) l.names)
