-- The notes of a run as the nodes of a graph.
use Rattle.std.specs.Prelude.{◌≡◌, ℕ, ◌-◌, ◌<◌, List, length, Some, slice_get, Vec}
use Rattle.std.specs.declared.alloc.Global.{Global}
use Rattle.pool_law.specs.Logs.{Logs}
use Rattle.topo_order.specs.Sorting.{MustPrecede}
use Rattle.log_order.specs.Precedence.{MustStandBefore}
use Rattle.log_order.specs.declared.graph.Graph.{Graph}
use Rattle.log_order.specs.declared.spots.Spot.{Spot}

-- each node has a list of those that must stand before it, and these are nodes
abbrev pub AreNeeds : List Spot → List (Vec ℕ Global) → Type 0
AreNeeds spots needs =
    (length needs ≡ length spots)
    × ((first node : ℕ) → MustPrecede needs first node → first < length spots)

-- the nodes are the notes at these places of the logs, and where a node must stand before another, so
-- must its note
pub record AreNodesOf (logs : Logs) (spots : List Spot) (needs : List (Vec ℕ Global)) : Type 0 where
  pub as_many : length needs ≡ length spots
  pub low : (first node : ℕ) → MustPrecede needs first node → first < length spots
  pub edges : (first node : ℕ) (a b : Spot) → MustPrecede needs first node →
      slice_get spots first ≡ Some a → slice_get spots node ≡ Some b → MustStandBefore logs a b

-- so it is of the graph that the program keeps
abbrev pub IsGraph : Logs → Graph → Type 0
IsGraph logs graph = AreNodesOf logs graph.spots.items graph.needs.items

-- these are the places of the nodes, from the last to the first
pub record AreBack (spots : List Spot) (nodes : List ℕ) (back : List Spot) : Type 0 where
  pub as_many : length back ≡ length nodes
  pub each : (k : ℕ) (spot : Spot) → slice_get back k ≡ Some spot →
      (node : ℕ) × (slice_get nodes (length nodes - 1 - k) ≡ Some node)
      × (slice_get spots node ≡ Some spot)
