use Rattle.log_order.specs.Spots.{notes_in}
use Rattle.log_order.specs.Playing.{MovesOn}
use Rattle.log_order.proofs.playing.Playing.run_lanes.Given as goal

abbrev pub invariant-loop-lane : goal.invariant-loop-lane
invariant-loop-lane l = MovesOn (notes_in l.logs) l.fn.self l.self l.moved (Unit {0})
