use Rattle.std.proofs.Common.{◌≡◌, ◌≤◌, ◌++◌, drop, map, vec_len}
use Rattle.std.specs.Prelude.{option_map}
use Rattle.pool_law.specs.Composites.{readable}
use Rattle.pool_law.specs.LaneStates.{LaneState, views_named}
use Rattle.lane_reader.specs.Viewing.{part_of}
use Rattle.lane_reader.specs.Standing.{IsLane}
use Rattle.lane_reader.proofs.lane.Lane.composite_from.Given as goal

abbrev pub invariant-loop-name : goal.invariant-loop-name
invariant-loop-name l = record {
  few : vec_len l.parts ≤ l.name-index;
  is : (s : LaneState) → IsLane l.self s →
      option_map (λ vs. map part_of l.parts.items ++ map readable vs) (views_named s (drop l.name-index l.names))
      ≡ option_map (map readable) (views_named s l.names);
}
