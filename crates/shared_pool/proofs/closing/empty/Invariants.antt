use Rattle.std.proofs.Common.{◌-◌}
use Rattle.crossbeam_queue.specs.Passes.{view}
use Rattle.shared_pool.specs.Joining.{IsFetchesOf}
use Rattle.shared_pool.proofs.closing.empty.Given as goal

abbrev pub invariant-loop-letter : goal.invariant-loop-letter
invariant-loop-letter g l = IsFetchesOf l.mail l.pass

abbrev pub decreases-loop-letter : goal.decreases-loop-letter
decreases-loop-letter g l = (view l.pass).room - (view l.pass).received
