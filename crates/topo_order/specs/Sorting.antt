-- An order of the nodes of a graph, and a circle.
use Rattle.std.specs.Prelude.{◌≡◌, ℕ, zero, suc, ◌<◌, List, length, Some, slice_get, Vec}
use Rattle.std.specs.declared.alloc.Global.{Global}
use Rattle.topo_order.specs.declared.Sorted.{Sorted}
use Rattle.topo_order.specs.declared.Sorted.TheVariants.{Ordered, Circle}

-- a graph: of each node, by number, the nodes that must stand before it
abbrev pub Graph : Type 0
Graph = List (Vec ℕ Global)

-- a node must stand before another
abbrev pub MustPrecede : Graph → ℕ → ℕ → Type 0
MustPrecede graph first node =
    (needs : Vec ℕ Global) × (k : ℕ) × (slice_get graph node ≡ Some needs)
    × (slice_get needs.items k ≡ Some first)

-- what must stand before a node is a node
abbrev pub AreNodes : Graph → Type 0
AreNodes graph = (first node : ℕ) → MustPrecede graph first node → first < length graph

-- all nodes stand in this list, each once, and before each stand those that must
pub record IsOrder (graph : Graph) (order : List ℕ) : Type 0 where
  pub all : (node : ℕ) → node < length graph → (k : ℕ) × (slice_get order k ≡ Some node)
  pub nodes : (k node : ℕ) → slice_get order k ≡ Some node → node < length graph
  pub once : (j k node : ℕ) → slice_get order j ≡ Some node → slice_get order k ≡ Some node →
      j ≡ k
  pub forward : (first node k : ℕ) → MustPrecede graph first node →
      slice_get order k ≡ Some node → (j : ℕ) × (j < k) × (slice_get order j ≡ Some first)

-- each of these nodes must stand behind the next, and the last behind the first
pub record IsCircle (graph : Graph) (circle : List ℕ) : Type 0 where
  pub some : 0 < length circle
  pub links : (k node next : ℕ) → slice_get circle k ≡ Some node →
      slice_get circle (suc k) ≡ Some next → MustPrecede graph next node
  pub closes : (k last first : ℕ) → suc k ≡ length circle → slice_get circle k ≡ Some last →
      slice_get circle zero ≡ Some first → MustPrecede graph first last

-- what is found of a graph
abbrev pub IsSorted : Graph → Sorted → Type 0
IsSorted graph (Ordered order) = IsOrder graph order.items
IsSorted graph (Circle circle) = IsCircle graph circle.items
