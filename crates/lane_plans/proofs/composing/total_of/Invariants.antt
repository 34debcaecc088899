use Rattle.std.proofs.Common.{◌≡◌, ◌≤◌, ◌*◌, ◌^◌, take}
use Rattle.pool_law.specs.Composites.{size_of}
use Rattle.lane_plans.proofs.composing.total_of.Given as goal

abbrev pub invariant-loop-part : goal.invariant-loop-part
invariant-loop-part l =
    (l.total ≡ size_of (take l.part-index l.parts)) × (l.total ≤ l.part-index * 2 ^ 32)
