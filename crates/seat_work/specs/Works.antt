-- What a seat has in hand and left, and how it goes on from there.
use Rattle.std.specs.Prelude.{◌≡◌, ℕ, ◌+◌, ◌≤◌, Bool, IsTrue, List, Some, replicate, slice_get, sum_by}
use Rattle.std.specs.List.{list_all}
use Rattle.pool_law.specs.declared.id.RootId.{RootId}
use Rattle.pool_law.specs.declared.note.RefDid.TheVariants.{Born}
use Rattle.shared_pool.specs.declared.seat.PoolSeat.{PoolSeat}
use Rattle.pool_table.specs.declared.views.Entry.{Entry}
use Rattle.pool_table.specs.declared.views.Entry.TheVariants.{Ref}
use Rattle.pool_table.specs.Lone.{IsLone, names, own_bytes}
use Rattle.shared_pool.specs.SeatViews.{view_of, SameSeat}
use Rattle.shared_pool.specs.declared.pool.SharedPool.{SharedPool}
use Rattle.shared_pool.specs.Seats.{IsPoolSeat}
use Rattle.seat_work.specs.Hands.{Hand, IsHeld}
use Rattle.seat_work.specs.Capacities.{KnowsNoLess}
use Rattle.seat_work.specs.Growth.{BearsNew, HasGrown, is_quiet_but, is_quiet_entry}
use Rattle.seat_work.specs.Changes.{IsPaid, Change, Changes}
use Rattle.seat_work.specs.HandOvers.{Sends}

-- a seat of the pool with just this in hand, and so many turns and moves left
pub record Works (pool : SharedPool) (hand : Hand) (turns moves : ℕ) (s : PoolSeat) :
    Type 0 where
  pub seat : IsPoolSeat pool s
  pub held : IsHeld hand (view_of s)
  pub paid : IsPaid (view_of s)
  pub turns_left : turns ≤ (view_of s).turns
  pub moves_left : moves ≤ (view_of s).moves

-- the seat has just this in hand now, spent at most so many turns and moves, and knows no less of
-- capacities
pub record Goes (pool : SharedPool) (hand : Hand) (turns moves : ℕ) (old new : PoolSeat) :
    Type 0 where
  pub seat : IsPoolSeat pool new
  pub held : IsHeld hand (view_of new)
  pub paid : IsPaid (view_of new)
  pub turns_left : (view_of old).turns ≤ (view_of new).turns + turns
  pub moves_left : (view_of old).moves ≤ (view_of new).moves + moves
  pub number : (view_of new).own.number ≡ (view_of old).own.number
  pub knows : KnowsNoLess (view_of old) (view_of new)

-- it went so far, this alone changed of what it counts and found, and it posted nothing
pub record Proceeds
    (pool : SharedPool) (hand : Hand) (turns moves : ℕ) (c : Change)
    (old new : PoolSeat) : Type 0 where
  pub goes : Goes pool hand turns moves old new
  pub changes : Changes c (view_of old) (view_of new)
  pub sends : Sends 0 (view_of old) (view_of new)

-- the same seat of the pool further on, behind some steps of its own, each of which is so, and which
-- bore no root that the seat bore before
pub record IsLaterBy (is_so : Entry → Bool) (pool : SharedPool) (old new : PoolSeat) : Type 0
  where
    pub same : SameSeat old new
    pub seat : IsPoolSeat pool new
    pub added : List Entry
    pub grown : HasGrown (view_of old) (view_of new) added
    pub quiet : IsTrue (list_all is_so added)
    pub once : BearsNew (view_of old).own.notes added

-- of these steps none accessed the bytes or the capacity of a root or passed a parcel
abbrev pub IsLater : SharedPool → PoolSeat → PoolSeat → Type 0
IsLater pool old new = IsLaterBy is_quiet_entry pool old new

-- or none did but to ask this root for capacity
abbrev pub IsLaterBut : RootId → SharedPool → PoolSeat → PoolSeat → Type 0
IsLaterBut root pool old new = IsLaterBy (is_quiet_but root) pool old new

-- the seat went on so, and by one of these steps it bore a root that it had named nowhere: it alone
-- has the root then, whose bytes are all 0
pub record HasBorn (pool : SharedPool) (root : RootId) (old new : PoolSeat) : Type 0 where
  pub later : IsLater pool old new
  pub at : ℕ
  pub born : slice_get later.added at ≡ Some (Ref root Born)
  pub fresh : sum_by (names root) (view_of old).own.notes ≡ 0
  pub lone : IsLone root (view_of new)
  pub zeros : own_bytes root (view_of new) ≡ replicate root.capacity 0
