use Rattle.std.proofs.Common.{◌≡◌, ◌≤◌, length, take}
use Rattle.std.specs.Prelude.{All, vec_capacity}
use Rattle.lane_stages.specs.Crossings.{parts_of}
use Rattle.lane_plans.specs.Plans.{IsSized}
use Rattle.lane_plans.proofs.crossings.get_stage.Given as goal

abbrev pub invariant-loop-part : goal.invariant-loop-part
invariant-loop-part l =
    (parts_of l.stretches.items ≡ take l.part-index l.part-items) × All IsSized l.stretches.items
    × (length l.stretches.items ≤ l.part-index) × (length l.part-items ≤ vec_capacity l.stretches)
