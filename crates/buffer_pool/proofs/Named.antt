-- What is so of the pool that a name stands for, and of a pool of that name.
use Rattle.std.proofs.Common.{◌≡◌, Option, Some, subst}
use Rattle.std.specs.Prelude.{IfSome}
use Rattle.shared_pool.specs.declared.pool.SharedPool.{SharedPool}

pub of_named : (P : SharedPool → Type 0) (name : Option SharedPool) (pool : SharedPool) → name ≡ Some pool
    → IfSome name P → P pool
of_named P name pool is holds = subst (λ o. IfSome o P) is holds
