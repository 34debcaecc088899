use Rattle.log_order.specs.Spots.{notes_in}
use Rattle.log_order.specs.Playing.{MovesOn, left_in}
use Rattle.log_order.proofs.playing.Playing.run_lane.Given as goal

abbrev pub invariant-loop-moved : goal.invariant-loop-moved
invariant-loop-moved l = MovesOn (notes_in l.logs) l.fn.self l.self l.moved (Unit {0})

abbrev pub decreases-loop-moved : goal.decreases-loop-moved
decreases-loop-moved l = left_in (notes_in l.logs) l.self.next.items
