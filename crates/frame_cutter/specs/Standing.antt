-- What holds of a cutter between two steps.
use Rattle.std.specs.Prelude.{◌≡◌, ℕ, ◌+◌, ◌-◌, ◌<◌, ◌≤◌, Bool, true, false, List, [], ◌∷◌, ◌++◌, HoldsAt, length, map, take, drop, Option, Some, None, slice_get, slice_index}
use Rattle.std.specs.Io.KnownBytes.{Consumes, IsAtEnd}
use Rattle.crossbeam_queue.specs.Passes.{Pass, view}
use Rattle.size_classes.specs.Sizes.{class_of}
use Rattle.pool_law.specs.Limits.{geometry_of}
use Rattle.pool_table.specs.Counts.{gained_of, lost_of}
use Rattle.pool_table.specs.Letters.{sent_on}
use Rattle.pool_table.specs.declared.views.SeatView.{SeatView}
use Rattle.pool_law.specs.declared.id.RootId.{RootId}
use Rattle.shared_pool.specs.MailAnswers.{RoomFor}
use Rattle.shared_pool.specs.SeatViews.{view_of}
use Rattle.seat_work.specs.Changes.{times}
use Rattle.seat_work.specs.Hands.{empty_hand}
use Rattle.seat_work.specs.Works.{Works}
use Rattle.text_ends.specs.Ends.{Rose}
use Rattle.job_queue.specs.declared.jobs.Job.{Job}
use Rattle.job_queue.specs.declared.jobs.JobLog.{JobLog}
use Rattle.job_queue.specs.Jobs.{IsSender}
use Rattle.frame_core.specs.declared.frame.FrameNo.{FrameNo}
use Rattle.frame_core.specs.declared.frame.FrameNo.TheVariants.{Length, Frames, Stream, Inside}
use Rattle.frame_core.specs.Frames.{failure_of, frames_of}
use Rattle.frame_slices.specs.declared.slicer.Found.{Found}
use Rattle.frame_slices.specs.declared.slicer.Slicer.{Slicer}
use Rattle.frame_slices.specs.Slices.{HasCut}
use Rattle.frame_hash.specs.declared.shared.Shared.{Shared}
use Rattle.frame_hash.specs.Told.{joined}
use Rattle.frame_cutter.specs.declared.cutting.Cutting as machines
use Rattle.frame_cutter.specs.declared.cutter.Cutter.{Cutter}
use Rattle.frame_cutter.specs.declared.stage.Stage.{Stage}
use Rattle.frame_cutter.specs.declared.stage.Stage.TheVariants.{Filling, Cutting, Handing, LettingGo, Ending, Over}
use Rattle.frame_cutter.specs.declared.stage.Verdict.{Verdict}
use Rattle.frame_cutter.specs.declared.stage.Verdict.TheVariants.{Whole, Refused, Fault}
use Rattle.frame_cutter.specs.declared.stage.TheConstants.{MOST_SLICES}
use Rattle.frame_cutter.specs.Sends.{AreSlices, HasSent, WriteFresh, Writes}
use Rattle.frame_cutter.specs.Stages.{gone_of, jobs_at, pieces_at, roots_at}
use Rattle.frame_cutter.specs.Finds.{GoThrough}
use Rattle.frame_cutter.specs.Stops.{AreBlocks, StopsWithin}

-- ---- How far it came in the stream.

-- the frames that were handed over are those of the bytes gone through, and these pieces are of the
-- next
pub record IsBetween
    (d : Cutter) (gone : List ℕ) (handed : List (List (List ℕ))) (pieces : List (List ℕ)) : Type 0
  where
    pub frames : frames_of gone ≡ map joined handed
    pub healthy : d.verdict ≡ Whole

-- the pieces are a whole frame, the next behind those that were handed over
pub record IsAtFrame
    (d : Cutter) (gone : List ℕ) (handed : List (List (List ℕ))) (pieces : List (List ℕ)) : Type 0
  where
    pub frames : frames_of gone ≡ map joined handed ++ joined pieces ∷ []
    pub healthy : d.verdict ≡ Whole

-- the block came behind these bytes, and is in a root; it is full, if it isn't the last
pub record IsInRoot (d : Cutter) (before block read : List ℕ) (root : RootId) : Type 0 where
  pub read_is : read ≡ before ++ block
  pub blocks : AreBlocks d.block before
  pub few : length block ≤ d.block
  pub full : d.last ≡ false → length block ≡ d.block
  pub capacity : root.capacity ≡ d.block
  pub rest : List ℕ
  pub written : Writes (view_of d.seat).own.notes (Some d.workers) root (block ++ rest)

-- so many finds are used: the block was gone through up to this place, and the others go through the
-- rest of it, behind which the slicer is
pub record IsAt
    (finds : List Found) (s : Slicer) (before block own : List ℕ) (used : ℕ) : Type 0
  where
    pub place : ℕ
    pub within : place ≤ length block
    pub many : used ≤ length finds
    pub rest : GoThrough (drop used finds) block place (before ++ take place block) own s

-- a stream that ends inside a frame is refused at its end
abbrev pub IsMet : FrameNo → Cutter → Type 0
IsMet (Inside number) d = d.last ≡ true
IsMet (Length number) d = Unit {0}
IsMet Frames d = Unit {0}
IsMet Stream d = Unit {0}

-- what the stream came to; behind the block in which a refusal is met nothing is read
abbrev pub HasVerdict : Verdict → Cutter → List ℕ → List (List (List ℕ)) → Type 0
HasVerdict Whole d read handed =
    (d.last ≡ true) × (failure_of read ≡ None) × (frames_of read ≡ map joined handed)
HasVerdict (Refused why) d read handed =
    IsMet why d × (failure_of read ≡ Some why) × StopsWithin d.block read
HasVerdict Fault d read handed = Unit {0}

-- by its stage, how far it came in the bytes that were read
abbrev pub IsUnderway :
    Stage → Cutter → List ℕ → List (List (List ℕ)) → List (List ℕ) → Type 0
IsUnderway Filling d read handed pieces =
    (d.last ≡ false) × IsBetween d read handed pieces × HasCut d.slicer read (joined pieces)
    × AreBlocks d.block read
IsUnderway (Cutting root used) d read handed pieces =
    (before : List ℕ) × (block : List ℕ) × (IsInRoot d before block read root
    × ((at : IsAt d.finds.items d.slicer before block (joined pieces) used)
    × IsBetween d (before ++ take at.place block) handed pieces))
IsUnderway (Handing root used posted) d read handed pieces =
    (before : List ℕ) × (block : List ℕ) × (IsInRoot d before block read root
    × ((at : IsAt d.finds.items d.slicer before block [] used) × (posted ≤ length pieces)
    × IsAtFrame d (before ++ take at.place block) handed pieces))
IsUnderway LettingGo d read handed pieces = HasVerdict d.verdict d read handed
IsUnderway (Ending next) d read handed pieces =
    HasVerdict d.verdict d read handed × (next ≤ d.workers) × (pieces ≡ [])
IsUnderway Over d read handed pieces = HasVerdict d.verdict d read handed × (pieces ≡ [])

-- ---- The cutter.

-- the view counts each of these roots exactly as often as it is there, and no other
abbrev pub CountsJust : List RootId → SeatView → Type 0
CountsJust roots v = (root : RootId) → gained_of root v ≡ lost_of root v + times root roots

-- the cutter stands at the pool beside its workers, whose lanes are those below its own
pub record StandsAt (shared : Shared) (d : Cutter) : Type 0 where
  pub works : Works shared.pool.now empty_hand d.turns d.moves d.seat
  pub lane : (view_of d.seat).own.number ≡ Some d.workers
  pub lanes : shared.pool.now.table.layout.shape.lanes ≡ d.workers + 1
  pub some : 0 < d.workers
  pub queues : length shared.queues.now ≡ d.workers
  pub ends : length d.ends.items ≡ d.workers
  pub rooms : length d.rooms.items ≡ d.workers

-- a root may have as many bytes as a block
pub record HasBlock (shared : Shared) (d : Cutter) : Type 0 where
  pub some : 0 < d.block
  pub few : d.block ≤ 65536
  pub class : class_of (geometry_of shared.pool.now.table.layout.shape) d.block ≡ Some d.class

-- what a worker got: its jobs, and its pieces; its mail has room for as many more as the cutter says
pub record HasServed
    (shared : Shared) (d : Cutter) (handed : List (List (List ℕ))) (pieces : List (List ℕ)) (worker : ℕ) :
    Type 0 where
  pub end : Pass Job JobLog
  pub end_is : slice_get d.ends.items worker ≡ Some end
  pub sends : HoldsAt (λ q. IsSender q end) shared.queues.now worker
  pub jobs : (view end).sent ≡ jobs_at d.workers worker handed d.stage
  pub sent : HasSent (view_of d.seat).own.notes d.workers worker
      (pieces_at d.workers worker handed d.stage pieces)
  pub few : sent_on d.workers worker (view_of d.seat).own.notes
      + (length d.slices.items - gone_of d.stage) + d.moves ≤ MOST_SLICES
  pub room : RoomFor shared.pool.now d.workers worker
      (sent_on d.workers worker (view_of d.seat).own.notes + slice_index d.rooms.items worker)

-- the cutter has read just these bytes
pub record CutterStands (shared : Shared) (d : Cutter) (read : List ℕ) : Type 0 where
  pub stands : StandsAt shared d
  pub block : HasBlock shared d
  pub counts : CountsJust (roots_at d.stage d.slices.items) (view_of d.seat)
  pub handed : List (List (List ℕ))
  pub pieces : List (List ℕ)
  pub frames : d.frames ≡ length handed
  pub fresh : WriteFresh (view_of d.seat).own.notes
  pub slices : AreSlices (view_of d.seat).own.notes (Some d.workers) d.slices.items pieces
  pub served : (worker : ℕ) → worker < d.workers → HasServed shared d handed pieces worker
  -- nothing went to another lane
  pub others : (to : ℕ) → d.workers ≤ to → HasSent (view_of d.seat).own.notes d.workers to []
  pub underway : IsUnderway d.stage d read handed pieces

-- what a stream comes to that ends with this failure, or with none
abbrev pub verdict_of : Option FrameNo → Verdict
verdict_of None = Whole
verdict_of (Some why) = Refused why

-- a read failed
abbrev pub is_fault : Verdict → Bool
is_fault Whole = false
is_fault (Refused why) = false
is_fault Fault = true

-- the same cutter, whatever it has done with what was read
pub record SameCutter (old new : Cutter) : Type 0 where
  pub workers : new.workers ≡ old.workers
  pub block : new.block ≡ old.block
  pub last : new.last ≡ old.last
  pub fault : is_fault new.verdict ≡ is_fault old.verdict

-- ---- The cutter with its source.

-- the source had a fault exactly where a read failed
pub record HasFaults (v : Verdict) (before now : ℕ) : Type 0 where
  pub fault : is_fault v ≡ true → Rose before now
  pub none : is_fault v ≡ false → now ≡ before

module _ {S : Type 0} (left : S → Option (List ℕ)) (faults : S → ℕ) where
  -- the cutter has come of the first by steps, beside a source that was the one and now is the other:
  -- unless a read failed, it has read just these bytes of it, and where it took them for the last,
  -- none is left
  pub record CutterCame (shared : Shared) (old new : S) (first d : Cutter) : Type 0 where
    pub read : List ℕ
    pub stands : CutterStands shared d read
    pub workers : d.workers ≡ first.workers
    pub block : d.block ≡ first.block
    pub bytes : is_fault d.verdict ≡ false → Consumes (left old) (left new) read
    pub end : is_fault d.verdict ≡ false → d.last ≡ true → IsAtEnd (left new)
    pub faults_are : HasFaults d.verdict (faults old) (faults new)

  -- the cutter has come of the first by steps, with the same source at the same cutter
  pub record CuttingCame (shared : Shared) (first c : machines.Cutting S) : Type 0 where
    pub source : c.source.ghost_name ≡ first.source.ghost_name
    pub cutter : c.cutter.ghost_name ≡ first.cutter.ghost_name
    pub came : CutterCame shared first.source.now c.source.now first.cutter.now c.cutter.now
