-- How what the law reads of an allocation comes from the seat to the thread.
use Rattle.std.proofs.Common.{◌≡◌, ℕ, Option, Some, ap, subst}
use Rattle.std.specs.Prelude.{Result, Ok, Err, MatchResult}
use Rattle.size_classes.specs.Sizes.{class_of}
use Rattle.pool_law.specs.declared.id.RootId.{RootId}
use Rattle.pool_law.specs.declared.report.Watch.{Watch}
use Rattle.pool_law.specs.declared.run.Reply.{Reply}
use Rattle.pool_law.specs.Limits.{geometry_of}
use Rattle.pool_law.specs.Patterns.{allot}
use Rattle.shared_pool.specs.declared.pool.SharedPool.{SharedPool}
use Rattle.shared_pool.specs.declared.seat.PoolSeat.{PoolSeat}
use Rattle.shared_pool.specs.SeatLanes.{lane_of}
use Rattle.shared_pool.specs.SeatViews.{view_of}
use Rattle.seat_work.specs.declared.allocation.AllocNo.{AllocNo as WorkNo}
use Rattle.seat_work.specs.declared.allocation.AllocNo.TheVariants as work
use Rattle.seat_work.specs.Answers.{Allots, Bears}
use Rattle.seat_tries.specs.declared.allocation.AllocNo.{AllocNo as TriesNo}
use Rattle.seat_tries.specs.declared.allocation.AllocNo.TheVariants as tries
use Rattle.seat_tries.specs.Allocations as tried
use Rattle.seat_tries.specs.declared.begun.Begun.{Begun}
use Rattle.pool_member.specs.declared.pending.Pending.TheVariants.{Tried}
use Rattle.pool_member.specs.declared.member.Member.{Member}
use Rattle.pool_member.specs.Allotting.{BearsOf, FillsOf, FromSettled, IsAllotted, IsRefused, IsTryRefused, RefusesOf, TriesOf}
use Rattle.pool_member.specs.Answers.{as_alloc}
use Rattle.pool_member.specs.Attempts.{as_try}
use Rattle.pool_member.specs.Threads.{IsSettled, Settles}
use Rattle.pool_member.specs.Watching.{watch_next}

pub from_settled : (pool : SharedPool) (Holds : PoolSeat → Type 0) (old mid : Member) → Settles pool old mid
    → IsSettled mid → Holds mid.seat → FromSettled pool old Holds
from_settled pool Holds old mid settles none is = record { mid = mid; settles = settles; settled = none; holds = is }

-- ---- What the seat's call told.

module _ (pool : SharedPool) (size class : ℕ) (watch : Option Watch) where
  pub bears_of : (old new : PoolSeat) → class_of (geometry_of pool.table.layout.shape) size ≡ Some class
      → (next : Option Watch) → watch ≡ next → (root : RootId)
      → Bears (allot pool.table.layout.shape (lane_of old) size) class watch root (view_of old) (view_of new)
      → BearsOf pool size next root old new
  bears_of old new is next same root x = record {
    class = class;
    class_is = is;
    bears =
        subst (λ (w : Option Watch).
        Bears (allot pool.table.layout.shape (lane_of old) size) class w root (view_of old) (view_of new)) same x;
  }

  -- a refusal of a call that waits
  pub refused_of : (old mid new : Member) → Settles pool old mid → IsSettled mid → (why : WorkNo)
      → Allots (allot pool.table.layout.shape (lane_of mid.seat) size) class watch (Err why) (view_of mid.seat)
      (view_of new.seat) → IsRefused pool size (as_alloc why) old new
  refused_of old mid new settles none work.NoHandle x =
      from_settled pool (λ m. RefusesOf pool size Reply.Handles m new.seat) old mid settles none x
  refused_of old mid new settles none work.Full x =
      from_settled pool (λ m. RefusesOf pool size Reply.Full m new.seat) old mid settles none x
  refused_of old mid new settles none work.Worn x = tt

  -- and of a try
  pub tried_of : (old : PoolSeat) (new : Member) (left : Begun) → new.pending ≡ Tried left → (why : TriesNo)
      → tried.Allots (allot pool.table.layout.shape (lane_of old) size) class watch (Err why) left (view_of old)
      (view_of new.seat) → TriesOf pool size why old new
  tried_of old new left is tries.Busy x = tt
  tried_of old new left is tries.NoHandle x = x
  tried_of old new left is tries.Full x = record { left = left; pending = is; notes = x }
  tried_of old new left is tries.Worn x = tt

-- ---- A try behind what was put away.

module _ (pool : SharedPool) (size : ℕ) (old mid new : Member) (settles : Settles pool old mid) (none : IsSettled mid)
  where
    refused_on : (why : TriesNo) → TriesOf pool size why mid.seat new → IsTryRefused pool size (as_try why) old new
    refused_on tries.Busy x = tt
    refused_on tries.NoHandle x =
        from_settled pool (λ m. RefusesOf pool size Reply.Handles m new.seat) old mid settles none x
    refused_on tries.Full x = from_settled pool (λ m. FillsOf pool size m new) old mid settles none x
    refused_on tries.Worn x = tt

    pub tried_on : (r : Result RootId TriesNo)
        → MatchResult r (λ root. BearsOf pool size (watch_next mid.watcher) root mid.seat new.seat)
        (λ why. TriesOf pool size why mid.seat new) →
        MatchResult r (λ root. IsAllotted pool size root old new) (λ why. IsTryRefused pool size (as_try why) old new)
    tried_on (Ok root) x =
        from_settled pool (λ m. BearsOf pool size (watch_next old.watcher) root m new.seat) old mid settles none
        (subst (λ w. BearsOf pool size (watch_next w) root mid.seat new.seat)
        (ap (λ (m : Member). m.watcher) settles.rest) x)
    tried_on (Err why) x = refused_on why x
