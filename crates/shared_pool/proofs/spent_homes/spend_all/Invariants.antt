use Rattle.std.specs.Prelude.{⊤}
use Rattle.shared_pool.proofs.spent_homes.spend_all.Given as goal

abbrev pub invariant-loop-home : goal.invariant-loop-home
invariant-loop-home l = ⊤

abbrev pub decreases-loop-home : goal.decreases-loop-home
decreases-loop-home l = goal.left-loop-home l
