-- What a seat answered that asked a root for capacity.
use Rattle.std.specs.Prelude.{◌≡◌, ℕ, Result, Ok, Err, Some, slice_get}
use Rattle.pool_law.specs.declared.id.RootId.{RootId}
use Rattle.pool_law.specs.declared.run.Reply.{Reply}
use Rattle.pool_law.specs.declared.run.Shape.{Shape}
use Rattle.pool_law.specs.Patterns.{Grown as LawGrown, grow_with, obtain}
use Rattle.pool_law.specs.Readers.{Reader, ◌>>=◌}
use Rattle.pool_table.specs.declared.views.Entry.{Entry}
use Rattle.pool_table.specs.Capacities.{told_in}
use Rattle.shared_pool.specs.declared.pool.SharedPool.{SharedPool}
use Rattle.shared_pool.specs.declared.seat.PoolSeat.{PoolSeat}
use Rattle.shared_pool.specs.declared.went.Grown.{Grown}
use Rattle.shared_pool.specs.Regrowing.{back_of, grown_capacity}
use Rattle.seat_work.specs.declared.regrowth.GrowNo.{GrowNo}
use Rattle.seat_work.specs.declared.regrowth.GrowNo.TheVariants.{Full}
use Rattle.seat_work.specs.Changes.{Change, no_change}
use Rattle.seat_work.specs.Works.{IsLaterBut}

-- it told nothing, or where it was refused that its arena was full
abbrev pub grown : Result ℕ GrowNo → Change
grown (Ok capacity) = no_change
grown (Err Full) = record no_change { full = 1 }

-- what the law of lanes gives of a growth with this answer
abbrev pub reply_of : Result ℕ GrowNo → Result ℕ Reply
reply_of (Ok capacity) = Ok capacity
reply_of (Err Full) = Err Reply.Full

-- and of a root that was given a region: its capacity, and the region that is left
abbrev pub as_grown : ℕ → Grown → LawGrown
as_grown asked g = record { capacity = grown_capacity asked g; spare = (back_of g).id }

-- how a growth is read on where the root's region does not hold so much
abbrev pub grow_over : Shape → ℕ → ℕ → RootId → ℕ → Reader (Result ℕ Reply)
grow_over shape lane class root size = obtain shape lane class >>= grow_with root size

-- the seat went on so, and the note of one of these steps told it so much of the root's capacity
pub record IsTold (pool : SharedPool) (root : RootId) (capacity : ℕ) (old new : PoolSeat) :
    Type 0 where
  pub later : IsLaterBut root pool old new
  pub at : ℕ
  pub entry : Entry
  pub stands : slice_get later.added at ≡ Some entry
  pub told : told_in root entry ≡ capacity
