use Rattle.std.proofs.Common.{◌≡◌, ◌≤◌, ℕ, length, take}
use Rattle.std.specs.Prelude.{All, vec_capacity}
use Rattle.pool_law.specs.declared.id.RootId.{RootId}
use Rattle.lane_plans.specs.Compositions.{IsPlaced, readable_of}
use Rattle.lane_context.specs.Named.{AreInside, IsInRoot}
use Rattle.lane_plans.proofs.composing.readable_parts.Given as goal

abbrev pub invariant-loop-name : goal.invariant-loop-name
invariant-loop-name l =
    (l.parts.items ≡ readable_of l.names (take l.name-index l.of)) × All IsPlaced l.parts.items
    × (length l.parts.items ≤ l.name-index) × (length l.of ≤ vec_capacity l.parts)
    × ((known : RootId → ℕ) → AreInside known l.names → All (IsInRoot known) l.parts.items)
