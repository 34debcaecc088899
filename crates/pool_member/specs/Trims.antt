-- What a thread did that gave back what its caches kept.
use Rattle.std.specs.Prelude.{◌≡◌, ℕ, ◌+◌, ◌*◌, ◌<◌, ◌≤◌, Bool, None}
use Rattle.pool_law.specs.declared.note.Did.{Did}
use Rattle.pool_law.specs.declared.note.Held.{Held}
use Rattle.pool_law.specs.declared.note.Object.{Object}
use Rattle.pool_law.specs.declared.note.Object.TheVariants.{Cache}
use Rattle.shared_pool.specs.declared.pool.SharedPool.{SharedPool}
use Rattle.shared_pool.specs.declared.seat.PoolSeat.{PoolSeat}
use Rattle.shared_pool.specs.Notes.{plain}
use Rattle.shared_pool.specs.SeatLanes.{lane_of}
use Rattle.shared_pool.specs.Seats.{FoundBusy, IsNoted}
use Rattle.shared_pool.specs.SeatViews.{view_of}
use Rattle.seat_work.specs.Changes.{no_change}
use Rattle.seat_work.specs.Hands.{empty_hand, IsHeld}
use Rattle.seat_work.specs.Works.{IsLater}
use Rattle.seat_tries.specs.Taking.{taken}
use Rattle.pool_member.specs.declared.answers.TryTrimNo.{TryTrimNo}
use Rattle.pool_member.specs.declared.answers.TryTrimNo.TheVariants.{Busy, Spent}
use Rattle.pool_member.specs.declared.member.Member.{Member}
use Rattle.pool_member.specs.declared.work.trimming.Shed.{Shed}
use Rattle.pool_member.specs.declared.work.trimming.Shed.TheVariants as shed
use Rattle.pool_member.specs.Pendings.{nothing, PutsAway}
use Rattle.pool_member.specs.Returns.{given, given_with}
use Rattle.pool_member.specs.Threads.{Does}

-- a step of this seat's found its lane's cache of the class empty, and it had nothing in hand then
pub record FindsEmpty (pool : SharedPool) (class : ℕ) (old new : PoolSeat) : Type 0 where
  pub mid : PoolSeat
  pub next : PoolSeat
  pub number : ℕ
  pub before : IsLater pool old mid
  pub noted : IsNoted pool mid next (Cache (lane_of mid) class) number (plain Did.Miss)
  pub held : IsHeld empty_hand (view_of next)
  pub after : IsLater pool next new

-- so it found those of the classes below this one
abbrev pub AreEmpty : SharedPool → ℕ → PoolSeat → PoolSeat → Type 0
AreEmpty pool classes old new = (class : ℕ) → class < classes → FindsEmpty pool class old new

-- at one step on the way another seat was in the section of an object, which left a mark or none
pub record MeetsAny (pool : SharedPool) (old new : PoolSeat) : Type 0 where
  pub mid : PoolSeat
  pub next : PoolSeat
  pub object : Object
  pub mark : Bool
  pub held : Held
  pub before : IsLater pool old mid
  pub found : FoundBusy pool object mark mid next held
  pub after : IsLater pool next new

-- why one stopped: another seat was in the way, or fewer turns are left than a step takes
abbrev pub MayStop : SharedPool → Member → Member → TryTrimNo → Type 0
MayStop pool old new Busy = MeetsAny pool old.seat new.seat
MayStop pool old new Spent = new.account.turns < 2

-- what the thread did: it spent turns, took no region of an arena, and nothing changed of what it
-- counts
pub record HasTrimmed (pool : SharedPool) (old new : Member) : Type 0 where
  pub spent : ℕ
  pub does : Does pool spent no_change None old new
  pub moves : new.account.moves ≡ old.account.moves
  pub later : IsLater pool old.seat new.seat
  pub took : taken new.seat ≡ taken old.seat

-- it spent no more turns than 2 for each region that went back to its arena or is to go there, for
-- each mark of another seat that was in its way, and for so many caches that it found empty
abbrev pub HasPaid : ℕ → Member → Member → Type 0
HasPaid caches old new =
    old.account.turns + 2 * given_with old.seat old.pending
    ≤ new.account.turns + 2 * (caches + given_with new.seat new.pending)

-- what a step at the cache of a class found and left
abbrev pub HasShed : SharedPool → ℕ → PoolSeat → PoolSeat → Shed → Type 0
HasShed pool class old new (shed.One left) =
    PutsAway pool 2 old new left × (given old + 1 ≤ given_with new left)
HasShed pool class old new shed.Empty =
    PutsAway pool 2 old new nothing × FindsEmpty pool class old new
HasShed pool class old new shed.Busy =
    PutsAway pool 2 old new nothing × MeetsAny pool old new × (given old + 1 ≤ given new)
