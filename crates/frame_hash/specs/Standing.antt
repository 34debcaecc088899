-- What holds of a worker between two steps.
use Rattle.std.specs.Prelude.{◌≡◌, ℕ, ◌+◌, ◌*◌, ◌^◌, ◌<◌, List, [], ◌∷◌, ◌++◌, HoldsAt, length, Some}
use Rattle.crossbeam_queue.specs.Passes.{view}
use Rattle.job_queue.specs.declared.jobs.Job.{Job}
use Rattle.job_queue.specs.declared.jobs.Job.TheVariants as jobs
use Rattle.job_queue.specs.Jobs.{IsReceiver}
use Rattle.seat_work.specs.Hands.{empty_hand}
use Rattle.seat_work.specs.Works.{Works}
use Rattle.sha2.specs.Hashers.{Holds256}
use Rattle.shared_pool.specs.SeatViews.{view_of}
use Rattle.frame_hash.specs.declared.hashes.HashOf.{HashOf}
use Rattle.frame_hash.specs.declared.shared.Shared.{Shared}
use Rattle.frame_hash.specs.declared.worker.Hashing.{Hashing}
use Rattle.frame_hash.specs.declared.worker.Work.{Work}
use Rattle.frame_hash.specs.declared.worker.Work.TheVariants.{Idle, Frame, Done}
use Rattle.frame_hash.specs.declared.worker.Worker.{Worker}
use Rattle.frame_hash.specs.Takes.{HasTaken}
use Rattle.frame_hash.specs.Told.{all_told, joined, slices_in}

-- the worker with this to do
abbrev pub at_work : Worker → Work → Worker
at_work w work = record w { work = work }

-- the same worker, whatever it has done
pub record SameWorker (old new : Worker) : Type 0 where
  pub number : new.number ≡ old.number
  pub cutter : new.cutter ≡ old.cutter

-- these hashes tell of the frames of the jobs, by the pieces of which there is one for each slice
pub record AreTold (js : List Job) (pieces : List (List ℕ)) (hashes : List HashOf) : Type 0 where
  pub told : hashes ≡ all_told js pieces
  pub slices : slices_in js ≡ length pieces

-- no slice of so many is hashed yet
pub record IsBegun (f : Hashing) (number slices : ℕ) : Type 0 where
  pub number_is : f.number ≡ number
  pub left : f.left ≡ slices
  pub few : slices < 2 ^ 32
  pub len : f.len ≡ 0
  pub holds : Holds256 f.hasher []

-- the last job's frame is being hashed: its first slices came as the last pieces, and the hasher
-- holds their bytes
pub record IsHashing
    (f : Hashing) (js : List Job) (pieces : List (List ℕ)) (hashes : List HashOf) : Type 0 where
  pub done : List Job
  pub slices : ℕ
  pub before : List (List ℕ)
  pub own : List (List ℕ)
  pub jobs_are : js ≡ done ++ jobs.Frame f.number slices ∷ []
  pub pieces_are : pieces ≡ before ++ own
  pub told : AreTold done before hashes
  pub left : length own + f.left ≡ slices
  pub holds : Holds256 f.hasher (joined own)
  pub len : f.len ≡ length (joined own)
  pub fits : f.len + f.left * 4294967295 < 2 ^ 64

-- the last job is the end, and all others are told of
pub record IsOver (js : List Job) (pieces : List (List ℕ)) (hashes : List HashOf) : Type 0 where
  pub done : List Job
  pub jobs_are : js ≡ done ++ jobs.End ∷ []
  pub told : AreTold done pieces hashes

-- by what it has to do, how far a worker came with its jobs
abbrev pub IsAtWork : Work → List Job → List (List ℕ) → List HashOf → Type 0
IsAtWork Idle js pieces hashes = AreTold js pieces hashes
IsAtWork (Frame f) js pieces hashes = IsHashing f js pieces hashes
IsAtWork Done js pieces hashes = IsOver js pieces hashes

-- the worker's seat has nothing in hand and so many turns left, its end is that of its queue, and it
-- tells of the frames whose jobs it got by the pieces that it took from the cutter's lane
pub record WorkerStands (shared : Shared) (w : Worker) : Type 0 where
  pub works : Works shared.pool.now empty_hand w.turns 0 w.seat
  pub lane : (view_of w.seat).own.number ≡ Some w.number
  pub cutter : w.cutter < shared.pool.now.table.layout.shape.lanes
  pub number : w.number < length shared.queues.now
  pub receives : HoldsAt (λ q. IsReceiver q w.jobs) shared.queues.now w.number
  pub pieces : List (List ℕ)
  pub taken : HasTaken (view_of w.seat) w.cutter w.number pieces
  pub work : IsAtWork w.work (view w.jobs).got pieces w.hashes.items

-- the worker has come of the first by steps
pub record WorkerCame (shared : Shared) (first w : Worker) : Type 0 where
  pub stands : WorkerStands shared w
  pub same : SameWorker first w
