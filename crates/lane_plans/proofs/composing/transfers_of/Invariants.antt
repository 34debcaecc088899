use Rattle.std.proofs.Common.{◌≡◌, ◌≤◌, length, map, take}
use Rattle.std.specs.Prelude.{All, vec_capacity}
use Rattle.pool_law.specs.Composites.{filled}
use Rattle.lane_plans.specs.Compositions.{HasBytes}
use Rattle.lane_plans.proofs.composing.transfers_of.Given as goal

abbrev pub invariant-loop-part : goal.invariant-loop-part
invariant-loop-part l =
    (map (λ t. t.part) l.transfers.items ≡ filled (take l.part-index l.parts)) × All HasBytes l.transfers.items
    × (length l.transfers.items ≤ l.part-index) × (length l.parts ≤ vec_capacity l.transfers)
