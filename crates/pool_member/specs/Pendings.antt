-- What a thread has still to put away of what it began, and how its seat goes on with that.
use Rattle.std.specs.Prelude.{ℕ, ◌+◌, ◌≤◌, None, Some}
use Rattle.pool_law.specs.Patterns.{give_back}
use Rattle.pool_law.specs.Readers.{Reader}
use Rattle.shared_pool.specs.declared.pool.SharedPool.{SharedPool}
use Rattle.shared_pool.specs.declared.seat.PoolSeat.{PoolSeat}
use Rattle.seat_work.specs.Answers.{hand_with}
use Rattle.seat_work.specs.Changes.{no_change}
use Rattle.seat_work.specs.Hands.{Hand, IsRegion}
use Rattle.seat_work.specs.Works.{IsLater, Proceeds}
use Rattle.seat_tries.specs.declared.begun.Begun.TheVariants.{Nothing}
use Rattle.seat_tries.specs.Leaving as tries
use Rattle.seat_tries.specs.Leaving.{IsBegun, MayLeave, MeetsOther}
use Rattle.pool_member.specs.declared.pending.Pending.{Pending}
use Rattle.pool_member.specs.declared.pending.Pending.TheVariants.{Tried, Piece}

-- there is nothing
abbrev pub nothing : Pending
nothing = Tried Nothing

-- what the seat has in hand for it, and how many turns it takes
abbrev pub hand_of : Pending → Hand
hand_of (Tried b) = tries.hand_of b
hand_of (Piece region) = hand_with None (Some region)

abbrev pub owed : Pending → ℕ
owed (Tried b) = tries.owed b
owed (Piece region) = 1

-- how the law of lanes reads on from there
abbrev pub left_of : Pending → Reader (Unit {0})
left_of (Tried b) = tries.left_of b
left_of (Piece region) = give_back region.id

-- it is the pool's
abbrev pub IsPending : SharedPool → PoolSeat → Pending → Type 0
IsPending pool s (Tried b) = IsBegun pool s b
IsPending pool s (Piece region) = IsRegion pool s region

-- the cause of what is left
abbrev pub MayStay : SharedPool → PoolSeat → PoolSeat → Pending → Type 0
MayStay pool old new (Tried b) = MayLeave pool old new b
MayStay pool old new (Piece region) = MeetsOther pool old new

-- the seat went on with it for no more of so many turns than leaves those for what is left, which it
-- has just in hand; nothing changed of what it counts
pub record PutsAway (pool : SharedPool) (turns : ℕ) (old new : PoolSeat) (left : Pending) : Type 0
  where
    pub spent : ℕ
    pub within : spent + owed left ≤ turns
    pub proceeds : Proceeds pool (hand_of left) spent 0 no_change old new
    pub pending : IsPending pool new left
    pub later : IsLater pool old new
    pub cause : MayStay pool old new left
