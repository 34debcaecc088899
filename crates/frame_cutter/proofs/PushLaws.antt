-- A cutter that pushed a job to a worker's queue, or found it full.
use Rattle.std.proofs.Common.{◌≡◌, ℕ, ◌<◌, ◌≢◌, List, length, set, sym, ap, subst, ◌∙◌, arith, Some}
use Rattle.std.specs.Prelude.{HoldsAt, slice_get}
use Rattle.std.proofs.lemmas.List.{get_or-set_other, get_or-set_same, length-set}
use Rattle.std.proofs.lemmas.Option.{slice_get-get_or, slice_get_within}
use mathlib.Core.Logic.{dite}
use native.Mathlib.Decide.{ℕ_discrete}
use Rattle.crossbeam_queue.specs.Passes.{Pass, view}
use Rattle.job_queue.specs.declared.jobs.Job.{Job}
use Rattle.job_queue.specs.declared.jobs.JobLog.{JobLog}
use Rattle.job_queue.specs.Jobs.{IsSender}
use Rattle.frame_hash.specs.declared.shared.Shared.{Shared}

-- a worker's end is that of its queue, and these jobs were sent
pub record HasEnd (shared : Shared) (ends : List (Pass Job JobLog)) (worker : ℕ) (jobs : List Job) : Type 0 where
  pub end : Pass Job JobLog
  pub end_is : slice_get ends worker ≡ Some end
  pub sends : HoldsAt (λ q. IsSender q end) shared.queues.now worker
  pub jobs_are : (view end).sent ≡ jobs

module _ (xs : List (Pass Job JobLog)) (i : ℕ) (x : Pass Job JobLog) where
  pub put_there : i < length xs → slice_get (set xs i x) i ≡ Some x
  put_there low =
      let long = length-set xs i x in
      slice_get-get_or (set xs i x) i x (omega (arith, low, long)) ∙ ap Some (get_or-set_same xs i x x low)

  pub put_elsewhere : (j : ℕ) → j ≢ i → (y : Pass Job JobLog) → slice_get xs j ≡ Some y
      → slice_get (set xs i x) j ≡ Some y
  put_elsewhere j ne y e =
      let low = slice_get_within xs j y e in let long = length-set xs i x in
      slice_get-get_or (set xs i x) j y (omega (arith, low, long)) ∙ ap Some (get_or-set_other xs i j x y ne)
      ∙ sym (slice_get-get_or xs j y low) ∙ e

-- one end was put in the place of another, and its jobs alone are others
pub ends_put : (shared : Shared) (ends : List (Pass Job JobLog)) (worker : ℕ) (end : Pass Job JobLog)
    (before jobs : ℕ → List Job)
    → worker < length ends → HoldsAt (λ q. IsSender q end) shared.queues.now worker → (view end).sent ≡ jobs worker
    → ((w : ℕ) → w ≢ worker → before w ≡ jobs w) → (w : ℕ) → HasEnd shared ends w (before w)
    → HasEnd shared (set ends worker end) w (jobs w)
ends_put shared ends worker end before jobs low sends sent others w has =
    dite (ℕ_discrete w worker)
    (λ is. subst (λ (k : ℕ). HasEnd shared (set ends worker end) k (jobs k)) (sym is) (record {
      end = end;
      end_is = put_there ends worker end low;
      sends = sends;
      jobs_are = sent;
    }))
    (λ ne. record {
      end = has.end;
      end_is = put_elsewhere ends worker end w ne has.end has.end_is;
      sends = has.sends;
      jobs_are = has.jobs_are ∙ others w ne;
    })
