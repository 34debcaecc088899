-- What the law of lanes reads of an ask of a thread for capacity.
use Rattle.std.specs.Prelude.{ℕ, Result, Ok, Err}
use Rattle.pool_law.specs.declared.id.RootId.{RootId}
use Rattle.pool_law.specs.declared.run.Reply.{Reply}
use Rattle.pool_law.specs.Patterns.{regrow}
use Rattle.pool_law.specs.Readers.{◌>>◌, give}
use Rattle.shared_pool.specs.declared.pool.SharedPool.{SharedPool}
use Rattle.shared_pool.specs.declared.seat.PoolSeat.{PoolSeat}
use Rattle.shared_pool.specs.SeatLanes.{lane_of}
use Rattle.shared_pool.specs.SeatViews.{view_of}
use Rattle.seat_work.specs.Readings.{NotesOn}
use Rattle.pool_member.specs.declared.answers.CapacityNo.{CapacityNo}
use Rattle.pool_member.specs.declared.answers.CapacityNo.TheVariants as capacity
use Rattle.pool_member.specs.declared.answers.TryCapacityNo.{TryCapacityNo}
use Rattle.pool_member.specs.declared.answers.TryCapacityNo.TheVariants as try
use Rattle.pool_member.specs.declared.member.Member.{Member}
use Rattle.pool_member.specs.declared.work.attempted.AskNo.{AskNo}
use Rattle.pool_member.specs.declared.work.attempted.AskNo.TheVariants as ask
use Rattle.pool_member.specs.Allotting.{FromSettled}
use Rattle.pool_member.specs.Growths.{Regrows}
use Rattle.pool_member.specs.Pendings.{left_of}

-- just what the law reads as an ask of the root for so much with this answer, but what the thread
-- has still to put away
abbrev pub GrowsOf : SharedPool → RootId → ℕ → Result ℕ Reply → PoolSeat → Member → Type 0
GrowsOf pool root size answer old new =
    NotesOn (regrow pool.table.layout.shape (lane_of old) root size)
    (left_of new.pending >> give answer) (view_of old) (view_of new.seat)

-- by what a try of a settled thread answers
abbrev pub AsksOf : SharedPool → RootId → ℕ → Result ℕ AskNo → PoolSeat → Member → Type 0
AsksOf pool root size answer old new =
    Regrows (regrow pool.table.layout.shape (lane_of old) root size) answer new.pending
    (view_of old) (view_of new.seat)

-- ---- What a thread does.

-- it put away what it had to, and then asked the root so
abbrev pub IsGrown : SharedPool → RootId → ℕ → Result ℕ Reply → Member → Member → Type 0
IsGrown pool root size answer old new =
    FromSettled pool old (λ mid. GrowsOf pool root size answer mid new)

-- by what a try answers
abbrev pub IsAsked : SharedPool → RootId → ℕ → Result ℕ AskNo → Member → Member → Type 0
IsAsked pool root size (Ok capacity) old new = IsGrown pool root size (Ok capacity) old new
IsAsked pool root size (Err ask.Busy) old new = Unit {0}
IsAsked pool root size (Err ask.Full) old new = IsGrown pool root size (Err Reply.Full) old new

-- it was refused so, with a full arena behind too small a capacity. Why else it was refused is no
-- note of a lane
abbrev pub IsUngrown : SharedPool → RootId → ℕ → CapacityNo → Member → Member → Type 0
IsUngrown pool root size capacity.NotHere old new = Unit {0}
IsUngrown pool root size capacity.TooLarge old new = Unit {0}
IsUngrown pool root size capacity.Spent old new = Unit {0}
IsUngrown pool root size capacity.Full old new = IsGrown pool root size (Err Reply.Full) old new

-- the same of a try
abbrev pub IsTryUngrown : SharedPool → RootId → ℕ → TryCapacityNo → Member → Member → Type 0
IsTryUngrown pool root size try.Busy old new = Unit {0}
IsTryUngrown pool root size (try.Refused why) old new = IsUngrown pool root size why old new
