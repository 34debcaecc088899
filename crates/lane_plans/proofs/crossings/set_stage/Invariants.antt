use Rattle.std.proofs.Common.{◌≡◌, ◌≤◌, length, take}
use Rattle.std.specs.Prelude.{All, vec_capacity}
use Rattle.pool_law.specs.Composites.{size_of}
use Rattle.lane_stages.specs.Crossings.{bytes_of, parts_of}
use Rattle.lane_plans.specs.Plans.{IsSized}
use Rattle.lane_plans.proofs.crossings.set_stage.Given as goal

abbrev pub invariant-loop-part : goal.invariant-loop-part
invariant-loop-part l =
    (parts_of l.stretches.items ≡ take l.part-index l.part-items) × All IsSized l.stretches.items
    × (bytes_of l.stretches.items ≡ take l.from l.bytes)
    × (l.from ≡ size_of (take l.part-index l.part-items)) × (size_of l.part-items ≡ length l.bytes)
    × (length l.stretches.items ≤ l.part-index) × (length l.part-items ≤ vec_capacity l.stretches)
