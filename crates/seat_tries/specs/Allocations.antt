-- What a try of an allocation told, and the cause of its refusal.
use Rattle.std.specs.Prelude.{ℕ, Option, Result, Ok, Err}
use Rattle.pool_law.specs.declared.id.RootId.{RootId}
use Rattle.pool_law.specs.declared.report.Watch.{Watch}
use Rattle.pool_law.specs.declared.run.Reply.{Reply}
use Rattle.pool_law.specs.Patterns.{New}
use Rattle.pool_law.specs.Readers.{Reader, ◌>>◌, give}
use Rattle.pool_table.specs.declared.views.SeatView.{SeatView}
use Rattle.shared_pool.specs.declared.pool.SharedPool.{SharedPool}
use Rattle.shared_pool.specs.declared.seat.PoolSeat.{PoolSeat}
use Rattle.seat_work.specs.Answers.{Bears, FindsWorn, MeetsWorn}
use Rattle.seat_work.specs.Changes.{Change, no_change, once_more}
use Rattle.seat_work.specs.Readings.{NotesAs, NotesOn}
use Rattle.seat_tries.specs.declared.allocation.AllocNo.{AllocNo}
use Rattle.seat_tries.specs.declared.allocation.AllocNo.TheVariants.{Busy, NoHandle, Full, Worn}
use Rattle.seat_tries.specs.declared.begun.Begun.{Begun}
use Rattle.seat_tries.specs.Leaving.{left_of, MeetsOther}

-- a root that the seat counts, or that its bin was empty or its arena full
abbrev pub refused : AllocNo → Change
refused Busy = no_change
refused NoHandle = record no_change { empty = 1 }
refused Full = record no_change { full = 1 }
refused Worn = no_change

abbrev pub allocated : Result RootId AllocNo → Change
allocated (Ok root) = once_more root
allocated (Err why) = refused why

-- the cause of a refusal, from before a handle was taken; and with the handle of a place in hand.
-- That a bin was empty and an arena full is told by the change
abbrev pub HasCause : SharedPool → PoolSeat → PoolSeat → AllocNo → Type 0
HasCause pool old new Busy = MeetsOther pool old new
HasCause pool old new NoHandle = Unit {0}
HasCause pool old new Full = Unit {0}
HasCause pool old new Worn = MeetsWorn pool old new

abbrev pub HasCauseAt : SharedPool → ℕ → PoolSeat → PoolSeat → AllocNo → Type 0
HasCauseAt pool place old new Busy = MeetsOther pool old new
HasCauseAt pool place old new NoHandle = Unit {0}
HasCauseAt pool place old new Full = Unit {0}
HasCauseAt pool place old new Worn = FindsWorn pool place old new

-- just the notes that the view has more are read so, on to what is left to put away and to this
-- answer. Of another seat that was met, and of a place that is worn out, the law of lanes says
-- nothing.
abbrev pub Allots :
    Reader (Result New Reply) → ℕ → Option Watch → Result RootId AllocNo → Begun →
    SeatView → SeatView → Type 0
Allots r class watch (Ok root) left old new = Bears r class watch root old new
Allots r class watch (Err Busy) left old new = Unit {0}
Allots r class watch (Err NoHandle) left old new = NotesAs r (Err Reply.Handles) old new
Allots r class watch (Err Full) left old new =
    NotesOn r (left_of left >> give (Err Reply.Full)) old new
Allots r class watch (Err Worn) left old new = Unit {0}
