-- What one try of an allocation or of a release told, and what it left.
use Rattle.std.specs.Prelude.{◌≡◌, ℕ, None}
use Rattle.shared_pool.specs.declared.pool.SharedPool.{SharedPool}
use Rattle.seat_work.specs.Changes.{Change, no_change}
use Rattle.seat_tries.specs.declared.allocation.AllocNo.{AllocNo as WorkNo}
use Rattle.seat_tries.specs.declared.allocation.AllocNo.TheVariants as work
use Rattle.seat_tries.specs.Leaving.{MeetsOther}
use Rattle.pool_member.specs.declared.answers.AllocNo.TheVariants.{NoHandle, Full, Worn}
use Rattle.pool_member.specs.declared.answers.TryAllocNo.{TryAllocNo}
use Rattle.pool_member.specs.declared.answers.TryAllocNo.TheVariants as alloc
use Rattle.pool_member.specs.declared.answers.TryNo.{TryNo}
use Rattle.pool_member.specs.declared.answers.TryNo.TheVariants.{Busy, Refused}
use Rattle.pool_member.specs.declared.member.Member.{Member}
use Rattle.pool_member.specs.Answers.{alloc_told, alloc_turns, HasCause}
use Rattle.pool_member.specs.Threads.{HasChanged}

-- ---- Allocations.

-- what a try that allocated nothing noted, and the turns that it took
abbrev pub try_told : TryAllocNo → Change
try_told alloc.Busy = no_change
try_told (alloc.Refused why) = alloc_told why

abbrev pub try_turns : TryAllocNo → ℕ
try_turns alloc.Busy = 6
try_turns (alloc.Refused why) = alloc_turns why

-- it was busy, for another seat was in the section of an object that this one tried, or refused as
-- the call that waits
abbrev pub HasTryCause : SharedPool → Member → Member → TryAllocNo → Type 0
HasTryCause pool old new alloc.Busy = MeetsOther pool old.seat new.seat
HasTryCause pool old new (alloc.Refused why) = HasCause pool old new why

-- the answer to a try on the pool, as this crate's
abbrev pub as_try : WorkNo → TryAllocNo
as_try work.Busy = alloc.Busy
as_try work.NoHandle = alloc.Refused NoHandle
as_try work.Full = alloc.Refused Full
as_try work.Worn = alloc.Refused Worn

-- ---- Releases.

-- a busy one has changed neither counts nor turns nor moves, and another seat was in the way of what
-- was to be put away first
abbrev pub LeavesCounted : SharedPool → Member → Member → TryNo → Type 0
LeavesCounted pool old new Busy =
    (new.account ≡ old.account) × HasChanged 0 no_change None old new
    × MeetsOther pool old.seat new.seat
LeavesCounted pool old new (Refused why) = new ≡ old
