use Rattle.shared_pool.specs.Opening.{IsFirstArena, Adds}
use Rattle.shared_pool.proofs.opening.add_arenas.Given as goal

abbrev pub invariant-loop-number : goal.invariant-loop-number
invariant-loop-number l = Adds (IsFirstArena l.shape) l.number l.fn.homes.items l.homes.items
