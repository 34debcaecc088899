use Rattle.std.proofs.Common.{◌≡◌, ◌<◌, ℕ, []}
use Rattle.topo_order.specs.Walking.{Stands, IsMarked}
use Rattle.topo_order.specs.declared.walk.Mark.TheVariants.{New}
use Rattle.topo_order.proofs.order_of.Given as goal

abbrev pub invariant-loop-node : goal.invariant-loop-node
invariant-loop-node l =
    Stands l.needs l.walk × (l.walk.path.items ≡ [])
    × ((v : ℕ) → v < l.node → IsMarked l.walk.marks.items v New → ⊥)
