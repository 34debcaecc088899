use Rattle.std.proofs.Common.{◌≡◌, ℕ, ◌-◌, Some}
use Rattle.std.specs.Prelude.{length, slice_get}
use Rattle.log_order.specs.declared.spots.Spot.{Spot}
use Rattle.log_order.proofs.graph.Graph.places_back.Given as goal

abbrev pub invariant-loop-k : goal.invariant-loop-k
invariant-loop-k l =
    (length l.spots.items ≡ l.k)
    × ((k : ℕ) (spot : Spot) → slice_get l.spots.items k ≡ Some spot →
    (node : ℕ) × (slice_get l.nodes (length l.nodes - 1 - k) ≡ Some node)
    × (slice_get l.self.spots.items node ≡ Some spot))
