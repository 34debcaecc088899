use Rattle.std.proofs.Common.{◌≡◌, ℕ}
use Rattle.topo_order.specs.Walking.{Stands, KeepsOld, IsMarked, left_of}
use Rattle.topo_order.specs.declared.walk.Mark.TheVariants.{New}
use Rattle.topo_order.proofs.walk.Walk.visit.Given as goal

abbrev pub invariant-loop-self : goal.invariant-loop-self
invariant-loop-self l =
    Stands l.graph l.self × KeepsOld l.fn.self l.self × (IsMarked l.self.marks.items l.fn.node New → ⊥)

abbrev pub decreases-loop-self : goal.decreases-loop-self
decreases-loop-self l = left_of l.self.marks.items l.graph
