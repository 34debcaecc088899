-- What is left to put away, and a seat that goes on with it.
use Rattle.std.proofs.Common.{◌≡◌, ℕ, ◌+◌, ◌≤◌, false, None, Some, refl, sym, ap, subst, arith}
use Rattle.pool_law.specs.declared.id.Region.{Region}
use Rattle.pool_law.specs.declared.note.Held.{Held}
use Rattle.pool_law.specs.declared.note.Object.{Object}
use Rattle.shared_pool.specs.declared.pool.SharedPool.{SharedPool}
use Rattle.shared_pool.specs.declared.seat.PoolSeat.{PoolSeat}
use Rattle.shared_pool.specs.SeatViews.{view_of, SameSeat}
use Rattle.shared_pool.specs.Seats.{FoundBusy, IsPoolSeat}
use Rattle.seat_work.specs.Answers.{hand_with}
use Rattle.seat_work.specs.Changes.{no_change}
use Rattle.seat_work.specs.Hands.{Hand, empty_hand, IsRegion}
use Rattle.seat_work.specs.Works.{IsLater, Proceeds, Works}
use Rattle.seat_work.proofs.Holds.{region_stays}
use Rattle.seat_work.proofs.Later.{later_has, later_on}
use Rattle.seat_work.proofs.Proceeding.{proceeds_none, proceeds_on}
use Rattle.seat_tries.specs.declared.begun.Begun.TheVariants.{Nothing, Place, Both}
use Rattle.seat_tries.specs.Leaving.{MeetsOther}
use Rattle.seat_tries.proofs.Goings.{begun_stays, meets, meets_on}
use Rattle.pool_member.specs.declared.pending.Pending.{Pending}
use Rattle.pool_member.specs.declared.pending.Pending.TheVariants.{Tried, Piece}
use Rattle.pool_member.specs.Pendings.{hand_of, nothing, IsPending, MayStay, PutsAway}

-- what is left stays the pool's
pub pending_stays : (pool : SharedPool) (p : Pending) (old new : PoolSeat)
    → (view_of new).setting ≡ (view_of old).setting → IsPending pool old p → IsPending pool new p
pending_stays pool (Tried b) old new same is = begun_stays pool b old new same is
pending_stays pool (Piece r) old new same is = region_stays pool old new r same is

-- what is left was met
pub met_by : (pool : SharedPool) (old new : PoolSeat) (left : Pending) → (left ≡ nothing → ⊥)
    → MayStay pool old new left → MeetsOther pool old new
met_by pool old new (Tried Nothing) some cause = absurd (some refl)
met_by pool old new (Tried (Place h)) some cause = cause
met_by pool old new (Tried (Both h r)) some cause = cause
met_by pool old new (Piece r) some cause = cause

module _ (pool : SharedPool) (old new : PoolSeat) where
  -- nothing is left
  pub none_away : (spent turns : ℕ) → spent ≤ turns → Proceeds pool empty_hand spent 0 no_change old new
      → IsLater pool old new → PutsAway pool turns old new nothing
  none_away spent turns le did later = record {
    spent = spent;
    within = omega (arith, le);
    proceeds = did;
    pending = tt;
    later = later;
    cause = tt;
  }

  -- the region is left, since another was at its arena
  pub piece_away : (own back : Region) (o : Object) (held : Held) → SameSeat old new → IsPoolSeat pool new
      → FoundBusy pool o false old new held → Works pool (hand_with None (Some own)) 1 0 old → IsRegion pool old own
      → back ≡ own → PutsAway pool 1 old new (Piece back)
  piece_away own back o held same is found works region again =
      subst (λ (r : Region). PutsAway pool 1 old new (Piece r)) (sym again) (record {
        spent = 0;
        within = omega arith;
        proceeds = proceeds_none pool (hand_with None (Some own)) 1 0 0 0 old new works is found.marked;
        pending = region_stays pool old new own (ap (λ m. m.0.setting) found.marked) region;
        later = later_has pool old new same works.seat is found.marked;
        cause = meets pool old new o held works.seat is found;
      })

module _ (pool : SharedPool) (old mid new : PoolSeat) where
  may_stay_on : (left : Pending) → IsLater pool old mid → MayStay pool mid new left → MayStay pool old new left
  may_stay_on (Tried Nothing) later cause = tt
  may_stay_on (Tried (Place h)) later cause = meets_on pool old mid new later cause
  may_stay_on (Tried (Both h r)) later cause = meets_on pool old mid new later cause
  may_stay_on (Piece r) later cause = meets_on pool old mid new later cause

  -- behind some work
  pub away_then : (between : Hand) (a t u : ℕ) (left : Pending) → IsLater pool old mid → a + t ≤ u
      → Proceeds pool between a 0 no_change old mid → PutsAway pool t mid new left → PutsAway pool u old new left
  away_then between a t u left later le x away = record {
    spent = a + away.spent;
    within = (let p = away.within in omega (arith, p, le));
    proceeds =
        proceeds_on pool no_change between (hand_of left) a 0 away.spent 0 (a + away.spent) 0 old mid new x
        away.proceeds (omega arith) (omega arith);
    pending = away.pending;
    later = later_on pool old mid new later away.later;
    cause = may_stay_on left later away.cause;
  }
