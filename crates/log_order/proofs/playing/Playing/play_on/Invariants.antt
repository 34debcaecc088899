use Rattle.log_order.specs.Spots.{notes_in}
use Rattle.log_order.specs.Playing.{IsSoFar, left_in}
use Rattle.log_order.proofs.playing.Playing.play_on.Given as goal

abbrev pub invariant-loop : goal.invariant-loop
invariant-loop l = IsSoFar (notes_in l.logs) l.self

abbrev pub decreases-loop : goal.decreases-loop
decreases-loop l = left_in (notes_in l.logs) l.self.next.items
