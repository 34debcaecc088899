-- How a refusal as worn out keeps its cause, from the call that found it to the caller.
use Rattle.std.proofs.Common.{◌≡◌, ℕ, Option, Some, None}
use Rattle.std.specs.Prelude.{Result, Ok, Err, IfErr, IfSome}
use Rattle.handle_bin.specs.Bins.{HandleValue}
use Rattle.pool_law.specs.declared.id.RootId.{RootId}
use Rattle.pool_law.specs.declared.note.Did.{Did}
use Rattle.pool_law.specs.declared.note.Object.TheVariants.{Bin}
use Rattle.shared_pool.specs.declared.seat.PoolSeat.{PoolSeat}
use Rattle.shared_pool.specs.SeatViews.{view_of, SameSeat}
use Rattle.shared_pool.specs.declared.pool.SharedPool.{SharedPool}
use Rattle.shared_pool.specs.Notes.{plain, popped}
use Rattle.shared_pool.specs.SeatLanes.{lane_of}
use Rattle.shared_pool.specs.Seats.{IsNoted}
use Rattle.seat_work.specs.declared.allocation.AllocNo.{AllocNo}
use Rattle.seat_work.specs.declared.allocation.AllocNo.TheVariants.{NoHandle, Full, Worn}
use Rattle.seat_work.specs.Hands.{lane_in}
use Rattle.seat_work.specs.Works.{IsLater}
use Rattle.seat_work.specs.Answers.{TookHandle, IsWorn, IsWornAt}
use Rattle.seat_work.proofs.Accesses.{noted_same}
use Rattle.seat_work.proofs.Later.{same_on, later_on}

module _ (pool : SharedPool) (old mid new : PoolSeat) where
  -- a handle that was popped is the next of the lane
  pub took_handle : (o : Option HandleValue) (number : ℕ) → SameSeat old mid → SameSeat mid new
      → view_of mid ≡ view_of old → IsNoted pool mid new (Bin (lane_of mid)) number (plain (popped o))
      → IfSome o (λ h. TookHandle pool h.place old new)
  took_handle None number before after view noted = tt
  took_handle (Some h) number before after view noted = record {
    same = same_on old mid new before after;
    number = number;
    noted = noted_same pool old mid new number (λ v. Bin (lane_in v)) (plain (Did.Handle h.place)) view noted;
  }

  -- so it is where the seat came here without a note
  pub took_on : (o : Option HandleValue) → SameSeat old mid → view_of mid ≡ view_of old
      → IfSome o (λ h. TookHandle pool h.place mid new) → IfSome o (λ h. TookHandle pool h.place old new)
  took_on None before view took = tt
  took_on (Some h) before view took = record {
    same = same_on old mid new before took.same;
    number = took.number;
    noted = noted_same pool old mid new took.number (λ v. Bin (lane_in v)) (plain (Did.Handle h.place)) view took.noted;
  }

  module _ (place : ℕ) where
    -- the seat came here, and found it worn out from here on
    worn_on : (why : AllocNo) → IsLater pool old mid → IsWornAt pool place mid new why
        → IsWornAt pool place old new why
    worn_on NoHandle later is = is
    worn_on Full later is = is
    worn_on Worn later is = record {
      mid = is.mid;
      before = later_on pool old mid is.mid later is.before;
      region = is.region;
      held = is.held;
      found = is.found;
      after = is.after;
    }

    pub still_worn : (r : Result RootId AllocNo) → IsLater pool old mid → IfErr r (IsWornAt pool place mid new)
        → IfErr r (IsWornAt pool place old new)
    still_worn (Ok root) later is = is
    still_worn (Err why) later is = worn_on why later is

    -- it took the handle first
    worn_first : (why : AllocNo) → TookHandle pool place old mid → IsWornAt pool place mid new why
        → IsWorn pool old new why
    worn_first NoHandle took is = is
    worn_first Full took is = is
    worn_first Worn took is = record { place = place; start = mid; took = took; finds = is }

    pub first_worn : (r : Result RootId AllocNo) → TookHandle pool place old mid
        → IfErr r (IsWornAt pool place mid new) → IfErr r (IsWorn pool old new)
    first_worn (Ok root) took is = is
    first_worn (Err why) took is = worn_first why took is
