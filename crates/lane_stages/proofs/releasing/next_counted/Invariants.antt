use Rattle.std.proofs.Common.{length}
use Rattle.lane_stages.proofs.Skipping.{Skips}
use Rattle.lane_stages.proofs.releasing.next_counted.Given as goal

abbrev pub invariant-loop-left : goal.invariant-loop-left
invariant-loop-left l = Skips l.counts l.fn.left.items l.left.items

abbrev pub decreases-loop-left : goal.decreases-loop-left
decreases-loop-left l = length l.left.items
