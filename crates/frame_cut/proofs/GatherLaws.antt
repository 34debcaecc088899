-- The ends of a queue, as they come together.
use Rattle.std.proofs.Common.{◌≡◌, ℕ, List, ◌++◌, drop, get_or, ap, sym, ◌∙◌, subst, arith}
use Rattle.std.specs.Prelude.{All, Option}
use Rattle.std.proofs.lemmas.Option.{get_or_from_slice_get}
use Rattle.crossbeam_queue.specs.declared.array_queue.Doing.{Doing}
use Rattle.crossbeam_queue.specs.declared.array_queue.Slotted.{Slotted}
use Rattle.crossbeam_queue.specs.Passes.{Pass, view}
use Rattle.job_queue.specs.declared.jobs.Job.{Job}
use Rattle.job_queue.specs.declared.jobs.JobLog.{JobLog}
use Rattle.job_queue.specs.Jobs.{IsReceiver, IsSender}
use Rattle.shared_pool.specs.declared.pool.SharedPool.{SharedPool}
use Rattle.shared_pool.specs.declared.seat.PoolSeat.{PoolSeat}
use Rattle.shared_pool.specs.Seated.{AreDone}
use Rattle.shared_pool.specs.Seats.{IsPoolSeat}
use Rattle.frame_cut.specs.Tellings.{HasEnds, HasGot}
use Rattle.frame_cut.proofs.ListSteps.{same_place}

module _ {Q A : Type 0} (queues : List (Slotted (Option Job) (Doing Job JobLog) Q A))
    (first now : List (Pass Job JobLog)) (k : ℕ) (jobs : Pass Job JobLog) (both : HasEnds queues first k jobs)
    (same : drop k now ≡ drop k first) (queue : Slotted (Option Job) (Doing Job JobLog) Q A) (end : Pass Job JobLog)
    (queue_is : queue ≡ get_or queues k queue) (end_is : end ≡ get_or now k end) where
  same_end : end ≡ both.end
  same_end =
      end_is ∙ get_or_from_slice_get now k both.end end (same_place now first k same ∙ both.end_is)

  pub ends_at : IsSender queue end × IsReceiver queue jobs
  ends_at = (
    subst (λ (x : Slotted (Option Job) (Doing Job JobLog) Q A × Pass Job JobLog). IsSender x.0 x.1)
        (λ i. (sym queue_is i, sym same_end i)) (both.sends queue),
    subst (λ (x : Slotted (Option Job) (Doing Job JobLog) Q A). IsReceiver x jobs) (sym queue_is)
        (both.receives queue),
  )

  -- what the worker got is a front of what was sent
  pub has_got : (left : List Job) × ((view end).sent ≡ (view jobs).got ++ left) → HasGot first k jobs
  has_got got = record {
    end = both.end;
    end_is = both.end_is;
    left = got.0;
    sent = ap (λ (e : Pass Job JobLog). (view e).sent) (sym same_end) ∙ got.1;
  }

-- seats that are done are the pool's
pub done_seats : (pool : SharedPool) (seats : List PoolSeat) → AreDone pool seats → All (IsPoolSeat pool) seats
done_seats pool seats done k d lt = (done.each k (let a = done.many in omega (arith, a, lt)) d).seat
