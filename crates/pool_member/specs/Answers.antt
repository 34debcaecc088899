-- What a refused allocation told, and its cause.
use Rattle.std.specs.Prelude.{◌≡◌, ℕ, ◌<◌}
use Rattle.shared_pool.specs.declared.seat.PoolSeat.{PoolSeat}
use Rattle.shared_pool.specs.declared.pool.SharedPool.{SharedPool}
use Rattle.seat_work.specs.declared.allocation.AllocNo.{AllocNo as WorkNo}
use Rattle.seat_work.specs.declared.allocation.AllocNo.TheVariants as work
use Rattle.seat_work.specs.Answers.{MeetsWorn}
use Rattle.seat_work.specs.Works.{IsLater}
use Rattle.seat_work.specs.Changes.{Change, no_change}
use Rattle.pool_member.specs.declared.answers.AllocNo.{AllocNo}
use Rattle.pool_member.specs.declared.answers.AllocNo.TheVariants.{TooLarge, Spent, NoHandle, Full, Worn}
use Rattle.pool_member.specs.declared.member.Member.{Member}
use Rattle.pool_member.specs.Threads.{IsSettled}

-- the thread noted once that it found no handle, or no region, or nothing of either
abbrev pub alloc_told : AllocNo → Change
alloc_told TooLarge = no_change
alloc_told Spent = no_change
alloc_told NoHandle = record no_change { empty = 1 }
alloc_told Full = record no_change { full = 1 }
alloc_told Worn = no_change

-- it took the turns of an allocation, or none
abbrev pub alloc_turns : AllocNo → ℕ
alloc_turns TooLarge = 0
alloc_turns Spent = 0
alloc_turns NoHandle = 6
alloc_turns Full = 6
alloc_turns Worn = 6

-- the seat put away what it had to, and then found the place of the handle that it took worn out
pub record MetWorn (pool : SharedPool) (old new : PoolSeat) : Type 0 where
  pub mid : PoolSeat
  pub before : IsLater pool old mid
  pub meets : MeetsWorn pool mid new

-- for want of turns, and where it is too large, the thread is as it was; as worn out, it found the
-- place of the handle that it took so, which is its first step where it has nothing to put away
abbrev pub HasCause : SharedPool → Member → Member → AllocNo → Type 0
HasCause pool old new TooLarge = new ≡ old
HasCause pool old new Spent = (old.account.turns < 6) × (new ≡ old)
HasCause pool old new NoHandle = Unit {0}
HasCause pool old new Full = Unit {0}
HasCause pool old new Worn =
    MetWorn pool old.seat new.seat × (IsSettled old → MeetsWorn pool old.seat new.seat)

-- the answer to an allocation on the pool, as this crate's
abbrev pub as_alloc : WorkNo → AllocNo
as_alloc work.NoHandle = NoHandle
as_alloc work.Full = Full
as_alloc work.Worn = Worn
