use Rattle.std.proofs.Common.{◌≡◌, ◌≤◌, ◌+◌, take}
use Rattle.std.specs.Prelude.{All, vec_capacity}
use Rattle.composite_buf.specs.Maps.{Fits}
use Rattle.lane_context.proofs.composed.Composed.part_list.Given as goal

abbrev pub invariant-loop-k : goal.invariant-loop-k
invariant-loop-k l =
    (l.parts.items ≡ take l.k l.self.parts) × All Fits l.parts.items × (l.count + 1 ≤ vec_capacity l.parts)
