-- What is left to put away of what a seat began, and how the seat went on.
use Rattle.std.specs.Prelude.{ℕ, ◌+◌, ◌≤◌, false}
use Rattle.pool_law.specs.declared.note.Held.{Held}
use Rattle.pool_law.specs.declared.note.Object.{Object}
use Rattle.pool_law.specs.declared.note.Object.TheVariants.{Bin}
use Rattle.pool_law.specs.Dids as says
use Rattle.pool_law.specs.Patterns.{give_back}
use Rattle.pool_law.specs.Readers.{Reader, ◌>>◌, note, nothing}
use Rattle.shared_pool.specs.declared.pool.SharedPool.{SharedPool}
use Rattle.shared_pool.specs.declared.seat.PoolSeat.{PoolSeat}
use Rattle.shared_pool.specs.Seats.{FoundBusy}
use Rattle.seat_work.specs.Answers.{with_both, with_place}
use Rattle.seat_work.specs.Changes.{Change}
use Rattle.seat_work.specs.Hands.{Hand, empty_hand, IsHandle, IsRegion}
use Rattle.seat_work.specs.Works.{IsLater, Proceeds}
use Rattle.seat_tries.specs.declared.begun.Begun.{Begun}
use Rattle.seat_tries.specs.declared.begun.Begun.TheVariants.{Nothing, Place, Both}

-- what the seat has in hand for it, and how many turns it takes
abbrev pub hand_of : Begun → Hand
hand_of Nothing = empty_hand
hand_of (Place handle) = with_place handle.place
hand_of (Both handle region) = with_both handle.place region.id

abbrev pub owed : Begun → ℕ
owed Nothing = 0
owed (Place handle) = 1
owed (Both handle region) = 2

-- how the law of lanes reads on from there
abbrev pub left_of : Begun → Reader (Unit {0})
left_of Nothing = nothing
left_of (Place handle) = note (Bin handle.lane) (says.home handle.place)
left_of (Both handle region) =
    give_back region.id >> note (Bin handle.lane) (says.home handle.place)

-- the handle and the region are the pool's
abbrev pub IsBegun : SharedPool → PoolSeat → Begun → Type 0
IsBegun pool s Nothing = Unit {0}
IsBegun pool s (Place handle) = IsHandle pool handle
IsBegun pool s (Both handle region) = IsHandle pool handle × IsRegion pool s region

-- at one step on the way another seat was in the section of an object
pub record MeetsOther (pool : SharedPool) (old new : PoolSeat) : Type 0 where
  pub mid : PoolSeat
  pub next : PoolSeat
  pub object : Object
  pub held : Held
  pub before : IsLater pool old mid
  pub found : FoundBusy pool object false mid next held
  pub after : IsLater pool next new

-- the cause of what is left
abbrev pub MayLeave : SharedPool → PoolSeat → PoolSeat → Begun → Type 0
MayLeave pool old new Nothing = Unit {0}
MayLeave pool old new (Place handle) = MeetsOther pool old new
MayLeave pool old new (Both handle region) = MeetsOther pool old new

-- the seat went on: this alone changed of what it counts and found, it has just what is left in hand,
-- and spent no more of so many turns than leaves those for it
pub record GoesOn (pool : SharedPool) (turns : ℕ) (c : Change) (old new : PoolSeat) (left : Begun) :
    Type 0 where
  pub spent : ℕ
  pub within : spent + owed left ≤ turns
  pub proceeds : Proceeds pool (hand_of left) spent 0 c old new
  pub begun : IsBegun pool new left
  pub later : IsLater pool old new
  pub cause : MayLeave pool old new left
