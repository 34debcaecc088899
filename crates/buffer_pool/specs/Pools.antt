-- What the pool of a name is.
use Rattle.std.specs.Prelude.{◌≡◌, ℕ, Option, Some}
use Rattle.pool_law.specs.Limits.{geometry_of}
use Rattle.size_classes.specs.Sizes.{Geometry}
use Rattle.shared_pool.specs.declared.pool.SharedPool.{SharedPool}
use Rattle.pool_member.specs.Threads.{HasOwnChannels}

-- the pool that a name stands for, with the sizes of its geometry and its number of threads, whose
-- letters go by channels of its user
pub record IsPoolOf
    (name : Option SharedPool) (pool : SharedPool) (sizes : Geometry) (threads : ℕ) : Type 0 where
  pub named : name ≡ Some pool
  pub sizes_are : sizes ≡ geometry_of pool.table.layout.shape
  pub threads_are : threads ≡ pool.table.layout.shape.lanes
  pub own : HasOwnChannels pool
