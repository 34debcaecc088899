use Rattle.shared_pool.specs.Opening.{IsNewRoot, Adds}
use Rattle.shared_pool.proofs.opening.add_roots.Given as goal

abbrev pub invariant-loop : goal.invariant-loop
invariant-loop l = Adds (λ k. IsNewRoot) l.counter l.fn.homes.items l.homes.items
