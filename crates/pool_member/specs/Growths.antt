-- What one try of an ask for capacity told, and what it left.
use Rattle.std.specs.Prelude.{◌≡◌, ℕ, ◌+◌, ◌≤◌, false, Option, None, Some, Result, Ok, Err}
use Rattle.pool_law.specs.declared.id.RootId.{RootId}
use Rattle.pool_law.specs.declared.note.Held.{Held}
use Rattle.pool_law.specs.declared.note.Object.{Object}
use Rattle.pool_law.specs.declared.run.Reply.{Reply}
use Rattle.pool_law.specs.declared.run.Shape.{Shape}
use Rattle.pool_law.specs.Patterns.{ask_arena, grow_with}
use Rattle.pool_law.specs.Readers.{Reader, ◌>>=◌, ◌>>◌, give}
use Rattle.pool_table.specs.Counts.{HasCount}
use Rattle.pool_table.specs.declared.views.SeatView.{SeatView}
use Rattle.shared_pool.specs.declared.pool.SharedPool.{SharedPool}
use Rattle.shared_pool.specs.declared.seat.PoolSeat.{PoolSeat}
use Rattle.shared_pool.specs.SeatViews.{view_of}
use Rattle.shared_pool.specs.Seats.{FoundBusy}
use Rattle.seat_work.specs.Capacities.{IsLearned}
use Rattle.seat_work.specs.Changes.{Change, no_change}
use Rattle.seat_work.specs.Readings.{NotesOn}
use Rattle.seat_work.specs.Regrowths.{IsTold}
use Rattle.seat_work.specs.Works.{IsLaterBut, Proceeds}
use Rattle.pool_member.specs.declared.answers.CapacityNo.{CapacityNo}
use Rattle.pool_member.specs.declared.answers.TryCapacityNo.{TryCapacityNo}
use Rattle.pool_member.specs.declared.answers.TryCapacityNo.TheVariants.{Busy, Refused}
use Rattle.pool_member.specs.declared.member.Member.{Member}
use Rattle.pool_member.specs.declared.pending.Pending.{Pending}
use Rattle.pool_member.specs.declared.work.attempted.AskNo.{AskNo}
use Rattle.pool_member.specs.declared.work.attempted.AskNo.TheVariants as ask
use Rattle.pool_member.specs.Pendings.{hand_of, left_of, owed, IsPending}
use Rattle.pool_member.specs.Regrowths.{IsRefusedBy, LeavesThread}
use Rattle.pool_member.specs.Threads.{HasChanged}

-- it was busy, or refused for this cause, as the call that waits
abbrev pub IsTriedBy : Option CapacityNo → TryCapacityNo → Type 0
IsTriedBy cause Busy = cause ≡ None
IsTriedBy cause (Refused why) = IsRefusedBy cause why

-- at one step on the way, on which none but asks of this root accessed bytes or capacity or passed a
-- parcel, another seat was in the section of an object
pub record MeetsOtherBut (root : RootId) (pool : SharedPool) (old new : PoolSeat) : Type 0 where
  pub mid : PoolSeat
  pub next : PoolSeat
  pub object : Object
  pub held : Held
  pub before : IsLaterBut root pool old mid
  pub found : FoundBusy pool object false mid next held
  pub after : IsLaterBut root pool next new

-- what a call left of the thread that got no capacity
abbrev pub LeavesAsked : SharedPool → RootId → Member → Member → TryCapacityNo → Type 0
LeavesAsked pool root old new Busy =
    HasChanged 6 no_change (Some root) old new × MeetsOtherBut root pool old.seat new.seat
LeavesAsked pool root old new (Refused why) = LeavesThread root old new why

-- ---- At the seat.

-- what it told
abbrev pub asked : Result ℕ AskNo → Change
asked (Ok capacity) = no_change
asked (Err ask.Busy) = no_change
asked (Err ask.Full) = record no_change { full = 1 }

-- why there is none: another was in the way, or the arena was full, as it told
abbrev pub MayRefuseAsked : SharedPool → RootId → PoolSeat → PoolSeat → AskNo → Type 0
MayRefuseAsked pool root old new ask.Busy = MeetsOtherBut root pool old new
MayRefuseAsked pool root old new ask.Full = Unit {0}

-- what it answers: a capacity that is enough, and was told by a note of this call; or why there is none
abbrev pub HasAnswer : SharedPool → RootId → ℕ → PoolSeat → PoolSeat → Result ℕ AskNo → Type 0
HasAnswer pool root size old new (Ok capacity) =
    (size ≤ capacity) × IsLearned root capacity (view_of old) (view_of new)
    × IsTold pool root capacity old new
HasAnswer pool root size old new (Err why) = MayRefuseAsked pool root old new why

-- the seat asked so, and spent no more of so many turns than leaves those for what is left
pub record AsksOn
    (pool : SharedPool) (turns : ℕ) (root : RootId) (size : ℕ) (old new : PoolSeat)
    (answer : Result ℕ AskNo) (left : Pending) : Type 0 where
  pub spent : ℕ
  pub within : spent + owed left ≤ turns
  pub proceeds : Proceeds pool (hand_of left) spent 0 (asked answer) old new
  pub pending : IsPending pool new left
  pub later : IsLaterBut root pool old new
  pub counts : HasCount root (view_of new)
  pub has : HasAnswer pool root size old new answer

-- how a growth is read on with a region of the arena
abbrev pub grow_taken : Shape → ℕ → ℕ → RootId → ℕ → Reader (Result ℕ Reply)
grow_taken shape lane class root size = ask_arena shape lane class >>= grow_with root size

-- just the notes that the view has more are read so, on to what is left to put away and to this
-- answer. Of another seat that was met the law of lanes says nothing
abbrev pub Regrows :
    Reader (Result ℕ Reply) → Result ℕ AskNo → Pending → SeatView → SeatView → Type 0
Regrows r (Ok capacity) left old new = NotesOn r (left_of left >> give (Ok capacity)) old new
Regrows r (Err ask.Busy) left old new = Unit {0}
Regrows r (Err ask.Full) left old new = NotesOn r (left_of left >> give (Err Reply.Full)) old new
