-- What the law of lanes reads of an allocation of a thread.
use Rattle.std.specs.Prelude.{◌≡◌, ℕ, Option, Some, Err}
use Rattle.size_classes.specs.Sizes.{class_of}
use Rattle.pool_law.specs.declared.id.RootId.{RootId}
use Rattle.pool_law.specs.declared.report.Watch.{Watch}
use Rattle.pool_law.specs.declared.run.Reply.{Reply}
use Rattle.pool_law.specs.Limits.{geometry_of}
use Rattle.pool_law.specs.Patterns.{allot}
use Rattle.pool_law.specs.Readers.{◌>>◌, give}
use Rattle.shared_pool.specs.declared.pool.SharedPool.{SharedPool}
use Rattle.shared_pool.specs.declared.seat.PoolSeat.{PoolSeat}
use Rattle.shared_pool.specs.SeatLanes.{lane_of}
use Rattle.shared_pool.specs.SeatViews.{view_of}
use Rattle.seat_work.specs.Answers.{Bears}
use Rattle.seat_work.specs.Readings.{NotesAs, NotesOn}
use Rattle.seat_tries.specs.declared.allocation.AllocNo.{AllocNo as TriesNo}
use Rattle.seat_tries.specs.declared.allocation.AllocNo.TheVariants as tries
use Rattle.seat_tries.specs.declared.begun.Begun.{Begun}
use Rattle.seat_tries.specs.Leaving.{left_of}
use Rattle.pool_member.specs.declared.answers.AllocNo.{AllocNo}
use Rattle.pool_member.specs.declared.answers.AllocNo.TheVariants.{TooLarge, Spent, NoHandle, Full, Worn}
use Rattle.pool_member.specs.declared.answers.TryAllocNo.{TryAllocNo}
use Rattle.pool_member.specs.declared.answers.TryAllocNo.TheVariants.{Busy, Refused}
use Rattle.pool_member.specs.declared.member.Member.{Member}
use Rattle.pool_member.specs.declared.pending.Pending.TheVariants.{Tried}
use Rattle.pool_member.specs.Threads.{IsSettled, Settles}
use Rattle.pool_member.specs.Watching.{watch_next}

-- the thread put away all that it had to, and from there on this holds
pub record FromSettled (pool : SharedPool) (old : Member) (Holds : PoolSeat → Type 0) : Type 0 where
  pub mid : Member
  pub settles : Settles pool old mid
  pub settled : IsSettled mid
  pub holds : Holds mid.seat

-- ---- What a seat notes.

-- just what the law reads as an allocation of so many bytes, which gives this root in a region of
-- their class, born with this watch
pub record BearsOf
    (pool : SharedPool) (size : ℕ) (watch : Option Watch) (root : RootId) (old new : PoolSeat) :
    Type 0
  where
    pub class : ℕ
    pub class_is : class_of (geometry_of pool.table.layout.shape) size ≡ Some class
    pub bears : Bears (allot pool.table.layout.shape (lane_of old) size) class watch root
        (view_of old) (view_of new)

-- just what the law reads as one that is refused so
abbrev pub RefusesOf : SharedPool → ℕ → Reply → PoolSeat → PoolSeat → Type 0
RefusesOf pool size why old new =
    NotesAs (allot pool.table.layout.shape (lane_of old) size) (Err why) (view_of old) (view_of new)

-- that for a full arena, but what the thread has still to put away
pub record FillsOf (pool : SharedPool) (size : ℕ) (old : PoolSeat) (new : Member) : Type 0 where
  pub left : Begun
  pub pending : new.pending ≡ Tried left
  pub notes : NotesOn (allot pool.table.layout.shape (lane_of old) size)
      (left_of left >> give (Err Reply.Full)) (view_of old) (view_of new.seat)

-- by what a try of a settled thread answers. Of another that was met, and of a place that is worn out,
-- the law says nothing
abbrev pub TriesOf : SharedPool → ℕ → TriesNo → PoolSeat → Member → Type 0
TriesOf pool size tries.Busy old new = Unit {0}
TriesOf pool size tries.NoHandle old new = RefusesOf pool size Reply.Handles old new.seat
TriesOf pool size tries.Full old new = FillsOf pool size old new
TriesOf pool size tries.Worn old new = Unit {0}

-- ---- What a thread does.

-- it allocated this root so, with the watch that was next
abbrev pub IsAllotted : SharedPool → ℕ → RootId → Member → Member → Type 0
IsAllotted pool size root old new =
    FromSettled pool old (λ mid. BearsOf pool size (watch_next old.watcher) root mid new.seat)

-- or was refused so, with no handle in its bin, or no region of that class in its arena. Why else it
-- was refused is no note of a lane
abbrev pub IsRefused : SharedPool → ℕ → AllocNo → Member → Member → Type 0
IsRefused pool size TooLarge old new = Unit {0}
IsRefused pool size Spent old new = Unit {0}
IsRefused pool size NoHandle old new =
    FromSettled pool old (λ mid. RefusesOf pool size Reply.Handles mid new.seat)
IsRefused pool size Full old new =
    FromSettled pool old (λ mid. RefusesOf pool size Reply.Full mid new.seat)
IsRefused pool size Worn old new = Unit {0}

-- the same of a try, which may leave the handle to be put away
abbrev pub IsTryRefused : SharedPool → ℕ → TryAllocNo → Member → Member → Type 0
IsTryRefused pool size Busy old new = Unit {0}
IsTryRefused pool size (Refused Full) old new =
    FromSettled pool old (λ mid. FillsOf pool size mid new)
IsTryRefused pool size (Refused why) old new = IsRefused pool size why old new
