-- The walk over a graph, as the program keeps it.
use Rattle.std.specs.Prelude.{◌≡◌, ℕ, zero, suc, ◌+◌, ◌-◌, ◌<◌, ◌≤◌, List, [], ◌∷◌, length, Some, slice_get, Vec}
use Rattle.std.specs.declared.alloc.Global.{Global}
use Rattle.topo_order.specs.Sorting.{Graph, MustPrecede}
use Rattle.topo_order.specs.declared.walk.Mark.{Mark}
use Rattle.topo_order.specs.declared.walk.Mark.TheVariants.{New, Open, Done}
use Rattle.topo_order.specs.declared.walk.Walk.{Walk}

-- a node has this mark
abbrev pub IsMarked : List Mark → ℕ → Mark → Type 0
IsMarked marks node mark = slice_get marks node ≡ Some mark

-- so many of the nodes that must stand before one are in the order
pub record AreTried (marks : List Mark) (needs : List ℕ) (tried : ℕ) : Type 0 where
  pub within : tried ≤ length needs
  pub done : (i first : ℕ) → i < tried → slice_get needs i ≡ Some first →
      (k : ℕ) × IsMarked marks first (Done k)

-- the marks tell which nodes stand on the path and in the order, and where; on the path each must
-- stand behind the next; and in the order each stands behind those that must stand before it
pub record IsWalk (graph : Graph) (marks : List Mark) (path order : List ℕ) : Type 0 where
  pub as_many : length marks ≡ length graph
  pub opened : (d node : ℕ) → slice_get path d ≡ Some node →
      (t : ℕ) × IsMarked marks node (Open d t)
  pub on_path : (node d t : ℕ) → IsMarked marks node (Open d t) → slice_get path d ≡ Some node
  pub done : (k node : ℕ) → slice_get order k ≡ Some node → IsMarked marks node (Done k)
  pub in_order : (node k : ℕ) → IsMarked marks node (Done k) → slice_get order k ≡ Some node
  pub tried : (node d t : ℕ) (needs : Vec ℕ Global) → IsMarked marks node (Open d t) →
      slice_get graph node ≡ Some needs → AreTried marks needs.items t
  pub linked : (d node next : ℕ) → slice_get path d ≡ Some node →
      slice_get path (suc d) ≡ Some next → MustPrecede graph next node
  pub forward : (first node k : ℕ) → MustPrecede graph first node →
      slice_get order k ≡ Some node → (j : ℕ) × (j < k) × (slice_get order j ≡ Some first)

-- so it is of what the program keeps
abbrev pub Stands : Graph → Walk → Type 0
Stands graph walk = IsWalk graph walk.marks.items walk.path.items walk.order.items

-- the steps that are left at a node of which so many must stand before
abbrev pub weight : Mark → ℕ → ℕ
weight New needs = needs + 2
weight (Open d t) needs = (needs + 1) - t
weight (Done k) needs = 0

-- the steps that are left
abbrev pub left_of : List Mark → Graph → ℕ
left_of [] graph = 0
left_of (m ∷ marks) [] = 0
left_of (m ∷ marks) (needs ∷ graph) = weight m (length needs.items) + left_of marks graph

-- a node that is new was new
abbrev pub KeepsOld : Walk → Walk → Type 0
KeepsOld old new =
    (node : ℕ) → IsMarked new.marks.items node New → IsMarked old.marks.items node New

-- one step further
pub record IsFurther (graph : Graph) (old new : Walk) : Type 0 where
  pub stands : Stands graph new
  pub less : left_of new.marks.items graph < left_of old.marks.items graph
  pub keeps : KeepsOld old new

-- a node was gone through, with all that must stand before it
pub record IsVisited (graph : Graph) (node : ℕ) (old new : Walk) : Type 0 where
  pub stands : Stands graph new
  pub path : new.path.items ≡ []
  pub keeps : KeepsOld old new
  pub seen : IsMarked new.marks.items node New → ⊥
