use Rattle.log_order.specs.Spots.{notes_in}
use Rattle.log_order.specs.Filling.{IsFilled}
use Rattle.log_order.proofs.making.graph_of.Given as goal

abbrev pub invariant-loop-lane : goal.invariant-loop-lane
invariant-loop-lane l = IsFilled (notes_in l.logs) l.graph l.index l.lane 0
