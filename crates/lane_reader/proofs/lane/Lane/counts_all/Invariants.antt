use Rattle.std.proofs.Common.{◌≡◌, drop, map}
use Rattle.std.specs.List.{list_all}
use Rattle.pool_law.specs.LaneStates.{LaneState, counts}
use Rattle.lane_reader.specs.Viewing.{part_of}
use Rattle.lane_reader.specs.Standing.{IsLane}
use Rattle.lane_reader.proofs.lane.Lane.counts_all.Given as goal

abbrev pub invariant-loop-part : goal.invariant-loop-part
invariant-loop-part l =
    (s : LaneState) → IsLane l.self s →
    list_all (λ p. counts s p.root) (map part_of (drop l.part-index l.parts))
    ≡ list_all (λ p. counts s p.root) (map part_of l.parts)
