-- A seat that goes on by tries, and what it leaves.
use Rattle.std.proofs.Common.{◌≡◌, ℕ, ◌+◌, ◌≤◌, false, refl, sym, ap, subst, arith}
use Rattle.std.specs.Prelude.{Result, Ok, Err, IfErr, IfOk}
use Rattle.handle_bin.specs.Bins.{HandleValue}
use Rattle.pool_law.specs.declared.id.Region.{Region}
use Rattle.pool_law.specs.declared.id.RootId.{RootId}
use Rattle.pool_law.specs.declared.note.Held.{Held}
use Rattle.pool_law.specs.declared.note.Object.{Object}
use Rattle.shared_pool.specs.declared.pool.SharedPool.{SharedPool}
use Rattle.shared_pool.specs.declared.seat.PoolSeat.{PoolSeat}
use Rattle.shared_pool.specs.SeatViews.{view_of, SameSeat}
use Rattle.shared_pool.specs.Seats.{FoundBusy, IsPoolSeat}
use Rattle.seat_work.specs.Answers.{TookHandle, with_both, with_place}
use Rattle.seat_work.specs.Changes.{Change, no_change}
use Rattle.seat_work.specs.Hands.{Hand, empty_hand, IsHandle, IsRegion}
use Rattle.seat_work.specs.Works.{HasBorn, IsLater, Proceeds, Works}
use Rattle.seat_work.proofs.Holds.{region_stays}
use Rattle.seat_work.proofs.Later.{born_on, later_has, later_none, later_on}
use Rattle.seat_work.proofs.Proceeding.{goes_none, proceeds_none, proceeds_on, proceeds_then}
use Rattle.seat_tries.specs.declared.allocation.AllocNo.{AllocNo}
use Rattle.seat_tries.specs.declared.allocation.AllocNo.TheVariants.{Busy, NoHandle, Full, Worn}
use Rattle.seat_tries.specs.Allocations.{HasCause, HasCauseAt}
use Rattle.seat_tries.specs.declared.begun.Begun.{Begun}
use Rattle.seat_tries.specs.declared.begun.Begun.TheVariants.{Nothing, Place, Both}
use Rattle.seat_tries.specs.Leaving.{hand_of, GoesOn, IsBegun, MayLeave, MeetsOther}

module _ (pool : SharedPool) where
  -- less of what is left serves too
  pub works_less : (hand : Hand) (t m a b : ℕ) (s : PoolSeat) → Works pool hand t m s → a ≤ t → b ≤ m
      → Works pool hand a b s
  works_less hand t m a b s works le lf = record {
    seat = works.seat;
    held = works.held;
    paid = works.paid;
    turns_left = (let x = works.turns_left in omega (arith, x, le));
    moves_left = (let x = works.moves_left in omega (arith, x, lf));
  }

  -- ---- Another that was met.

  pub meets : (old new : PoolSeat) (o : Object) (held : Held) → IsPoolSeat pool old → IsPoolSeat pool new
      → FoundBusy pool o false old new held → MeetsOther pool old new
  meets old new o held was is found = record {
    mid = old;
    next = new;
    object = o;
    held = held;
    before = later_none pool old was;
    found = found;
    after = later_none pool new is;
  }

  pub meets_on : (old mid new : PoolSeat) → IsLater pool old mid → MeetsOther pool mid new → MeetsOther pool old new
  meets_on old mid new later met = record {
    mid = met.mid;
    next = met.next;
    object = met.object;
    held = met.held;
    before = later_on pool old mid met.mid later met.before;
    found = met.found;
    after = met.after;
  }

  pub meets_then : (old mid new : PoolSeat) → MeetsOther pool old mid → IsLater pool mid new → MeetsOther pool old new
  meets_then old mid new met later = record {
    mid = met.mid;
    next = met.next;
    object = met.object;
    held = met.held;
    before = met.before;
    found = met.found;
    after = later_on pool met.next mid new met.after later;
  }

  may_leave_on : (left : Begun) (old mid new : PoolSeat) → IsLater pool old mid → MayLeave pool mid new left
      → MayLeave pool old new left
  may_leave_on Nothing old mid new later cause = tt
  may_leave_on (Place h) old mid new later cause = meets_on old mid new later cause
  may_leave_on (Both h r) old mid new later cause = meets_on old mid new later cause

  -- ---- One try behind some work.

  module _ (c : Change) (between : Hand) (a t u : ℕ) (old mid new : PoolSeat) (left : Begun)
      (later : IsLater pool old mid) (le : a + t ≤ u) where
    pub goes_then : Proceeds pool between a 0 no_change old mid → GoesOn pool t c mid new left
        → GoesOn pool u c old new left
    goes_then x goes = record {
      spent = a + goes.spent;
      within = (let p = goes.within in omega (arith, p, le));
      proceeds =
          proceeds_on pool c between (hand_of left) a 0 goes.spent 0 (a + goes.spent) 0 old mid new x goes.proceeds
          (omega arith) (omega arith);
      begun = goes.begun;
      later = later_on pool old mid new later goes.later;
      cause = may_leave_on left old mid new later goes.cause;
    }

    -- where all that changed had changed before
    pub goes_first : Proceeds pool between a 0 c old mid → GoesOn pool t no_change mid new left
        → GoesOn pool u c old new left
    goes_first x goes = record {
      spent = a + goes.spent;
      within = (let p = goes.within in omega (arith, p, le));
      proceeds =
          proceeds_then pool c between (hand_of left) a 0 goes.spent 0 (a + goes.spent) 0 old mid new x goes.proceeds
          (omega arith) (omega arith);
      begun = goes.begun;
      later = later_on pool old mid new later goes.later;
      cause = may_leave_on left old mid new later goes.cause;
    }

  -- nothing is left
  pub leaves_none : (c : Change) (a u : ℕ) (old new : PoolSeat) → a ≤ u → Proceeds pool empty_hand a 0 c old new
      → IsLater pool old new → GoesOn pool u c old new Nothing
  leaves_none c a u old new le x later = record {
    spent = a;
    within = omega (arith, le);
    proceeds = x;
    begun = tt;
    later = later;
    cause = tt;
  }

  -- where nothing was to be done
  pub leaves_same : (s : PoolSeat) → Works pool empty_hand 0 0 s → GoesOn pool 0 no_change s s Nothing
  leaves_same s works =
      leaves_none no_change 0 0 s s (omega arith)
      (record {
        goes = goes_none pool empty_hand 0 0 s works;
        changes = record {
          counts = λ root. omega arith;
          ended = λ root. omega arith;
          empty = omega arith;
          full = omega arith;
        };
        sends = record { number = refl; setting = refl; sent = λ to. omega arith };
      }) (later_none pool s works.seat)

  -- ---- A try that met another at once.

  module _ (old new : PoolSeat) (o : Object) (held : Held) (same : SameSeat old new) (is : IsPoolSeat pool new)
      (found : FoundBusy pool o false old new held) where
    pub leaves_place : (h back : HandleValue) (t : ℕ) → 1 ≤ t → Works pool (with_place h.place) 1 0 old
        → IsHandle pool h → back ≡ h → GoesOn pool t no_change old new (Place back)
    leaves_place h back t le works handle again =
        subst (λ (x : HandleValue). GoesOn pool t no_change old new (Place x)) (sym again) (record {
          spent = 0;
          within = omega (arith, le);
          proceeds = proceeds_none pool (with_place h.place) 1 0 0 0 old new works is found.marked;
          begun = handle;
          later = later_has pool old new same works.seat is found.marked;
          cause = meets old new o held works.seat is found;
        })

    pub leaves_both : (h : HandleValue) (r back : Region) (t : ℕ) → 2 ≤ t → Works pool (with_both h.place r.id) 2 0 old
        → IsHandle pool h → IsRegion pool old r → back ≡ r → GoesOn pool t no_change old new (Both h back)
    leaves_both h r back t le works handle region again =
        subst (λ (x : Region). GoesOn pool t no_change old new (Both h x)) (sym again) (record {
          spent = 0;
          within = omega (arith, le);
          proceeds = proceeds_none pool (with_both h.place r.id) 2 0 0 0 old new works is found.marked;
          begun = (handle, region_stays pool old new r (ap (λ m. m.0.setting) found.marked) region);
          later = later_has pool old new same works.seat is found.marked;
          cause = meets old new o held works.seat is found;
        })

-- what was begun stays so
pub begun_stays : (pool : SharedPool) (b : Begun) (old new : PoolSeat)
    → (view_of new).setting ≡ (view_of old).setting → IsBegun pool old b → IsBegun pool new b
begun_stays pool Nothing old new same is = tt
begun_stays pool (Place h) old new same is = is
begun_stays pool (Both h r) old new same is = (is.0, region_stays pool old new r same is.1)

-- ---- What an allocation answers behind some steps.

module _ (pool : SharedPool) (old mid new : PoolSeat) where
  pub if_born_later : (r : Result RootId AllocNo) → IsLater pool old mid → IfOk r (λ root. HasBorn pool root mid new)
      → IfOk r (λ root. HasBorn pool root old new)
  if_born_later (Ok root) later x = born_on pool root old mid new later x
  if_born_later (Err why) later x = tt

  module _ (place : ℕ) where
    cause_on : (why : AllocNo) → IsLater pool old mid → HasCauseAt pool place mid new why
        → HasCauseAt pool place old new why
    cause_on Busy later is = meets_on pool old mid new later is
    cause_on NoHandle later is = tt
    cause_on Full later is = tt
    cause_on Worn later is = record {
      mid = is.mid;
      before = later_on pool old mid is.mid later is.before;
      region = is.region;
      held = is.held;
      found = is.found;
      after = is.after;
    }

    pub if_cause_on : (r : Result RootId AllocNo) → IsLater pool old mid → IfErr r (HasCauseAt pool place mid new)
        → IfErr r (HasCauseAt pool place old new)
    if_cause_on (Ok root) later is = tt
    if_cause_on (Err why) later is = cause_on why later is

    -- the handle was taken first
    cause_first : (why : AllocNo) → IsLater pool old mid → TookHandle pool place old mid
        → HasCauseAt pool place mid new why → HasCause pool old new why
    cause_first Busy later took is = meets_on pool old mid new later is
    cause_first NoHandle later took is = tt
    cause_first Full later took is = tt
    cause_first Worn later took is = record { place = place; start = mid; took = took; finds = is }

    pub if_cause_first : (r : Result RootId AllocNo) → IsLater pool old mid → TookHandle pool place old mid
        → IfErr r (HasCauseAt pool place mid new) → IfErr r (HasCause pool old new)
    if_cause_first (Ok root) later took is = tt
    if_cause_first (Err why) later took is = cause_first why later took is
