use Rattle.std.proofs.Common.{◌<◌, ℕ}
use Rattle.log_order.specs.Spots.{notes_in}
use Rattle.log_order.specs.Filling.{Links, Grows}
use Rattle.log_order.proofs.making.link_nodes.Given as goal

abbrev pub invariant-loop-node : goal.invariant-loop-node
invariant-loop-node l =
    Grows (notes_in l.logs) l.fn.graph l.graph
    ((node : ℕ) → node < l.node → (first : ℕ) → Links (notes_in l.logs) l.graph first node)
