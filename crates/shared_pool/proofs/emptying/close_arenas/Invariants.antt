use Rattle.std.specs.Prelude.{All}
use Rattle.shared_pool.specs.Emptying.{IsResting}
use Rattle.shared_pool.proofs.emptying.close_arenas.Given as goal

abbrev pub invariant-loop-home : goal.invariant-loop-home
invariant-loop-home l = All IsResting l.homes.items

abbrev pub decreases-loop-home : goal.decreases-loop-home
decreases-loop-home l = goal.left-loop-home l
