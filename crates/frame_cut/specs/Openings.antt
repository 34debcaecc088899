-- With what a run begins: the pool, the queues, the workers and the cutter, each by itself.
use Rattle.std.specs.Prelude.{◌≡◌, ℕ, ◌+◌, ◌<◌, false, List, [], length, Option, Some, slice_get}
use Rattle.std.specs.Int.{div_ceil}
use Rattle.size_classes.specs.declared.TheConstants.{DEFAULT_PAGE}
use Rattle.crossbeam_queue.specs.declared.array_queue.Doing.{Doing}
use Rattle.crossbeam_queue.specs.declared.array_queue.Slotted.{Slotted}
use Rattle.crossbeam_queue.specs.Passes.{Pass, view}
use Rattle.job_queue.specs.declared.jobs.Job.{Job}
use Rattle.job_queue.specs.declared.jobs.JobLog.{JobLog}
use Rattle.job_queue.specs.Jobs.{IsReceiver, IsSender}
use Rattle.pool_law.specs.declared.run.Level.{Level}
use Rattle.pool_table.specs.declared.views.Layout.{Layout}
use Rattle.shared_pool.specs.declared.pool.SharedPool.{SharedPool}
use Rattle.shared_pool.specs.declared.seat.PoolSeat.{PoolSeat}
use Rattle.shared_pool.specs.MailAnswers.{RoomFor}
use Rattle.shared_pool.specs.Opening.{AreOpened}
use Rattle.frame_core.specs.declared.limits.TheConstants.{MAX_FRAMES, MAX_STREAM}
use Rattle.frame_slices.specs.Slices.{HasCut}
use Rattle.frame_hash.specs.declared.worker.Work.{Work}
use Rattle.frame_hash.specs.declared.worker.Worker.{Worker}
use Rattle.frame_cutter.specs.declared.cutter.Cutter.{Cutter}
use Rattle.frame_cutter.specs.declared.stage.Stage.{Stage}
use Rattle.frame_cutter.specs.declared.stage.Verdict.{Verdict}
use Rattle.frame_cutter.specs.declared.stage.TheConstants.{MOST_SLICES}
use Rattle.frame_cut.specs.declared.openings.TheConstants.{ORDER, SEAT_TURNS}

-- ---- The pool.

-- a pool of so many lanes
abbrev pub layout_of : ℕ → Layout
layout_of lanes =
    record {
      shape = record {
        page = DEFAULT_PAGE;
        order = ORDER;
        arenas = 2;
        chunks = 4;
        handles = 4096;
        lanes = lanes;
        level = Level.Disabled;
        interval = 128;
      };
      moves = MOST_SLICES;
      turns = SEAT_TURNS;
    }

-- as many slices may go to one of so many workers where the stream comes in blocks of so many bytes:
-- a slice ends its block, or a frame of that worker
abbrev pub room_of : ℕ → ℕ → ℕ
room_of workers block = div_ceil MAX_STREAM block + div_ceil MAX_FRAMES workers

-- a new pool for so many workers and the cutter, whose mails to the workers have this room
pub record IsNewPool (workers room : ℕ) (pool : SharedPool) (seats : List PoolSeat) : Type 0 where
  pub layout : pool.layout ≡ layout_of (workers + 1)
  pub mail : List ℕ
  pub opened : AreOpened (layout_of (workers + 1)) mail pool seats
  pub rooms : (to : ℕ) → to < workers → RoomFor pool workers to room

-- ---- The queues.

module _ {Q A : Type 0} where
  -- the two ends of an empty queue
  pub record IsLine
      (queue : Slotted (Option Job) (Doing Job JobLog) Q A) (sender receiver : Pass Job JobLog) :
      Type 0
    where
      pub sends : IsSender queue sender
      pub sent : (view sender).sent ≡ []
      pub receives : IsReceiver queue receiver
      pub got : (view receiver).got ≡ []

  -- so many empty queues, each with its two ends at its place
  pub record AreLines
      (count : ℕ) (queues : List (Slotted (Option Job) (Doing Job JobLog) Q A))
      (senders receivers : List (Pass Job JobLog)) : Type 0
    where
      pub queues_many : length queues ≡ count
      pub senders_many : length senders ≡ count
      pub receivers_many : length receivers ≡ count
      pub each : (k : ℕ) (queue : Slotted (Option Job) (Doing Job JobLog) Q A)
          (sender receiver : Pass Job JobLog) →
          slice_get queues k ≡ Some queue → slice_get senders k ≡ Some sender →
          slice_get receivers k ≡ Some receiver → IsLine queue sender receiver

-- ---- The workers and the cutter.

-- a worker of this number with this seat and this end, which did nothing yet
pub record IsNewWorker
    (cutter number : ℕ) (seat : PoolSeat) (jobs : Pass Job JobLog) (w : Worker) : Type 0
  where
    pub seat_is : w.seat ≡ seat
    pub jobs_are : w.jobs ≡ jobs
    pub number_is : w.number ≡ number
    pub cutter_is : w.cutter ≡ cutter
    pub turns : w.turns ≡ SEAT_TURNS
    pub hashes : w.hashes.items ≡ []
    pub work : w.work ≡ Work.Idle

-- so many workers, each with the seat and the end at its place
pub record AreNewWorkers
    (cutter : ℕ) (seats : List PoolSeat) (receivers : List (Pass Job JobLog)) (count : ℕ)
    (workers : List Worker) : Type 0
  where
    pub many : length workers ≡ count
    pub each : (k : ℕ) (w : Worker) → slice_get workers k ≡ Some w →
        (seat : PoolSeat) × ((jobs : Pass Job JobLog) × ((slice_get seats k ≡ Some seat)
        × (slice_get receivers k ≡ Some jobs) × IsNewWorker cutter k seat jobs w))

-- a cutter with this seat, these ends and rooms and blocks of this size, which did nothing yet
pub record IsNewCutter
    (workers : ℕ) (seat : PoolSeat) (ends : List (Pass Job JobLog)) (rooms : List ℕ) (block : ℕ)
    (class : ℕ) (d : Cutter) : Type 0
  where
    pub seat_is : d.seat ≡ seat
    pub workers_are : d.workers ≡ workers
    pub ends_are : d.ends.items ≡ ends
    pub cut : HasCut d.slicer [] []
    pub block_is : d.block ≡ block
    pub finds : d.finds.items ≡ []
    pub last : d.last ≡ false
    pub class_is : d.class ≡ class
    pub turns : d.turns ≡ SEAT_TURNS
    pub moves : d.moves ≡ MOST_SLICES
    pub rooms_are : d.rooms.items ≡ rooms
    pub frames : d.frames ≡ 0
    pub slices : d.slices.items ≡ []
    pub stage : d.stage ≡ Stage.Filling
    pub verdict : d.verdict ≡ Verdict.Whole
