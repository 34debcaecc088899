use Rattle.log_order.specs.Spots.{notes_in}
use Rattle.log_order.specs.Filling.{IsFilled}
use Rattle.log_order.proofs.making.push_lane.Given as goal

abbrev pub invariant-loop-at : goal.invariant-loop-at
invariant-loop-at l = IsFilled (notes_in l.logs) l.graph l.index l.lane l.at
