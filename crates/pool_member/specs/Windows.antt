-- What a contract sees of a buffer, and when a letter is a parcel of a pool.
use Rattle.std.specs.Prelude.{◌≡◌, ℕ, ◌*◌, ◌<◌, IsSome}
use Rattle.pool_law.specs.declared.id.RootId.{RootId}
use Rattle.pool_law.specs.declared.id.ViewData.{ViewData}
use Rattle.shared_pool.specs.declared.pool.SharedPool.{SharedPool}
use Rattle.shared_pool.specs.Mails.{table_of}
use Rattle.shared_pool.specs.Posting.{PostedLetter}

-- where a buffer lies in its root, and the number of its thread
pub record Window : Type 0 where
  pub at : ViewData
  pub thread : ℕ

-- the root is at one of the pool's places
abbrev pub HasPlace : SharedPool → RootId → Type 0
HasPlace pool root = root.place < pool.table.layout.shape.lanes * pool.table.layout.shape.handles

-- the letter is of this pool, from one of its threads, and has a buffer
pub record IsParcelOf (pool : SharedPool) (p : PostedLetter) : Type 0 where
  pub table : p.table ≡ table_of pool
  pub sender : p.letter.from < pool.table.layout.shape.lanes
  pub buffer : IsSome p.letter.parcel.view
