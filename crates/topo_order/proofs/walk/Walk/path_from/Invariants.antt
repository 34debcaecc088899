use Rattle.std.proofs.Common.{◌≡◌, take}
use Rattle.topo_order.proofs.walk.Walk.path_from.Given as goal

abbrev pub invariant-loop-node : goal.invariant-loop-node
invariant-loop-node l = l.path.items ≡ take l.node-index l.node-items
