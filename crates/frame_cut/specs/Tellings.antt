-- What workers told of the frames of a stream, and how they and the cutter start.
use Rattle.std.specs.Prelude.{◌≡◌, ℕ, false, ◌+◌, ◌%◌, ◌/◌, ◌<◌, ◌≤◌, List, [], ◌++◌, HoldsAt, length, Option, Some, slice_get, vec_capacity}
use Rattle.text_ends.specs.Ends.{Rose}
use Rattle.text_ends.specs.Spans.{SourceSpan}
use Rattle.crossbeam_queue.specs.declared.array_queue.Doing.{Doing}
use Rattle.crossbeam_queue.specs.declared.array_queue.Slotted.{Slotted}
use Rattle.crossbeam_queue.specs.Passes.{Pass, view}
use Rattle.job_queue.specs.declared.jobs.Job.{Job}
use Rattle.job_queue.specs.declared.jobs.JobLog.{JobLog}
use Rattle.job_queue.specs.Jobs.{IsReceiver, IsSender}
use Rattle.frame_core.specs.Frames.{frames_of}
use Rattle.frame_hash.specs.declared.shared.Shared.{Shared}
use Rattle.frame_hash.specs.declared.worker.Worker.{Worker}
use Rattle.frame_hash.specs.Hashes.{hash_of}
use Rattle.frame_hash.specs.Standing.{WorkerStands}
use Rattle.frame_cutter.specs.declared.stage.Verdict.{Verdict}
use Rattle.frame_cutter.specs.declared.stage.Verdict.TheVariants.{Whole, Refused, Fault}
use Rattle.frame_cutter.specs.Standing.{CutterStands}
use Rattle.frame_cut.specs.declared.closing.StreamEnd.{StreamEnd}
use Rattle.frame_cut.specs.declared.openings.Opened.{Opened}
use Rattle.frame_cut.specs.Outcomes.{IsRefused, IsWhole}

-- of so many workers, frame k was told of by worker k modulo their number, behind all frames before
-- it that went to this worker
pub record Tells (told : StreamEnd) (frames : List (List ℕ)) : Type 0 where
  pub some : 0 < length told.hashes.items
  pub many : told.frames ≡ length frames
  pub few : length frames ≤ 65536
  pub each : (k : ℕ) (frame : List ℕ) → slice_get frames k ≡ Some frame →
      HoldsAt (λ list. slice_get list.items (k / length told.hashes.items)
      ≡ Some (record { number = k; hash = hash_of frame }))
      told.hashes.items (k % length told.hashes.items)

-- what the stream, read in blocks of so many bytes, came to, and of a stream of frames what was told
-- of them
abbrev pub HasTold : Verdict → StreamEnd → ℕ → SourceSpan → Type 0
HasTold Whole told block src = (bytes : List ℕ) × (IsWhole src bytes × Tells told (frames_of bytes))
HasTold (Refused why) told block src = (bytes : List ℕ) × IsRefused block src bytes why
HasTold Fault told block src = Rose src.faults src.faults_then

-- the pool and the queues that the cutter and its workers share
pub record IsSharedOf (shared : Shared) (o : Opened) : Type 0 where
  pub pool : shared.pool.now ≡ o.pool
  pub queues : shared.queues.now ≡ o.queues.items

-- the worker stands at its place and got nothing yet
pub record IsIdle (shared : Shared) (workers k : ℕ) (w : Worker) : Type 0 where
  pub stands : WorkerStands shared w
  pub number : w.number ≡ k
  pub cutter : w.cutter ≡ workers
  pub idle : (view w.jobs).got ≡ []

-- a pool for so many workers, at which they and the cutter stand, with nothing read yet and a block
-- of so many bytes
pub record IsOpen (workers block : ℕ) (o : Opened) : Type 0 where
  pub cutter : (shared : Shared) → IsSharedOf shared o → CutterStands shared o.cutter []
  pub count : o.cutter.workers ≡ workers
  pub long : o.cutter.block ≡ block
  pub some : 0 < workers
  pub many : length o.workers.items ≡ workers
  pub ready : (shared : Shared) → IsSharedOf shared o → (k : ℕ) (w : Worker) →
      slice_get o.workers.items k ≡ Some w → IsIdle shared workers k w
  pub seats : (o.seats.items ≡ []) × (workers + 1 ≤ vec_capacity o.seats)
  pub told : (o.told.items ≡ []) × (workers ≤ vec_capacity o.told)
  -- nothing was read
  pub begun : (o.cutter.last ≡ false) × (o.cutter.verdict ≡ Whole)

-- ---- How they end.

module _ {Q A : Type 0} where
  -- the two ends of the queue at this place
  pub record HasEnds
      (queues : List (Slotted (Option Job) (Doing Job JobLog) Q A)) (ends : List (Pass Job JobLog))
      (k : ℕ) (jobs : Pass Job JobLog) : Type 0
    where
      pub inside : k < length queues
      pub end : Pass Job JobLog
      pub end_is : slice_get ends k ≡ Some end
      pub sends : HoldsAt (λ q. IsSender q end) queues k
      pub receives : HoldsAt (λ q. IsReceiver q jobs) queues k

-- what was got at this place is a front of what was sent
pub record HasGot (ends : List (Pass Job JobLog)) (k : ℕ) (jobs : Pass Job JobLog) : Type 0 where
  pub end : Pass Job JobLog
  pub end_is : slice_get ends k ≡ Some end
  pub left : List Job
  pub sent : (view end).sent ≡ (view jobs).got ++ left
