use Rattle.shared_pool.specs.Opening.{IsFirstCache, Adds}
use Rattle.shared_pool.proofs.opening.add_caches.Given as goal

abbrev pub invariant-loop-index : goal.invariant-loop-index
invariant-loop-index l = Adds (IsFirstCache) l.index l.fn.homes.items l.homes.items
