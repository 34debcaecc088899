-- A cutter whose seat went on without a post, and that told no worker more.
use Rattle.std.proofs.Common.{◌≡◌, ℕ, ◌+◌, ◌<◌, ◌≤◌, Bool, List, [], ◌++◌, length, take, refl, sym, ap, subst, ◌∙◌, arith, Some}
use Rattle.std.specs.Prelude.{◌%◌, ◌==◌, if◌then◌else◌}
use Rattle.std.specs.Global.{Vec}
use Rattle.shared_pool.specs.declared.seat.PoolSeat.{PoolSeat}
use Rattle.shared_pool.specs.SeatViews.{view_of}
use Rattle.job_queue.specs.declared.jobs.Job.{Job}
use Rattle.pool_law.specs.declared.id.ViewData.{ViewData}
use Rattle.frame_hash.specs.declared.shared.Shared.{Shared}
use Rattle.frame_hash.specs.Told.{jobs_of, pieces_of, share_of}
use Rattle.frame_slices.specs.declared.slicer.Found.{Found}
use Rattle.frame_slices.specs.declared.slicer.Slicer.{Slicer}
use Rattle.frame_cutter.specs.declared.cutter.Cutter.{Cutter}
use Rattle.frame_cutter.specs.declared.stage.Stage.{Stage}
use Rattle.frame_cutter.specs.declared.stage.Verdict.{Verdict}
use Rattle.frame_cutter.specs.Sends.{AreSlices, HasSent}
use Rattle.frame_cutter.specs.Stages.{ends_at, gone_of, jobs_at, pieces_at, roots_at}
use Rattle.frame_cutter.specs.Standing.{CutterStands, HasBlock, HasServed, IsUnderway, StandsAt}
use Rattle.frame_cutter.proofs.SeatLaws.{HasGone, sent_then}

-- the cutter with these of its parts
abbrev pub moved_to :
    Cutter → PoolSeat → ℕ → ℕ → Vec Found → Bool → Slicer → Vec ViewData → Stage → Verdict → Cutter
moved_to d seat turns moves finds last slicer slices stage verdict =
    record d {
      seat = seat;
      turns = turns;
      moves = moves;
      finds = finds;
      last = last;
      slicer = slicer;
      slices = slices;
      stage = stage;
      verdict = verdict;
    }

-- from one stage to the other no slice goes, and no worker is told that nothing more comes
pub record KeepsTold (workers : ℕ) (old new : Stage) : Type 0 where
  pub before : gone_of old ≡ 0
  pub behind : gone_of new ≡ 0
  pub ends : (worker : ℕ) → worker < workers → ends_at old worker ≡ ends_at new worker

module _ (shared : Shared) (d : Cutter) (read : List ℕ) (st : CutterStands shared d read)
    (seat : PoolSeat) (turns moves : ℕ) (finds : Vec Found) (last : Bool) (slicer : Slicer) (slices : Vec ViewData)
    (stage : Stage) (verdict : Verdict) (pieces : List (List ℕ))
    (went : HasGone shared.pool.now d.workers turns moves (roots_at stage slices.items) d.seat seat)
    (keeps : KeepsTold d.workers d.stage stage) where
  stands_then : StandsAt shared (moved_to d seat turns moves finds last slicer slices stage verdict)
  stands_then =
      let s = st.stands in
      record {
        works = went.works;
        lane = went.lane;
        lanes = s.lanes;
        some = s.some;
        queues = s.queues;
        ends = s.ends;
        rooms = s.rooms;
      }

  block_then : HasBlock shared (moved_to d seat turns moves finds last slicer slices stage verdict)
  block_then = let b = st.block in record { some = b.some; few = b.few; class = b.class }

  same_jobs : (worker : ℕ) → worker < d.workers
      → jobs_at d.workers worker st.handed d.stage ≡ jobs_at d.workers worker st.handed stage
  same_jobs worker below =
      ap (λ (js : List Job). jobs_of (share_of d.workers worker 0 st.handed) ++ js) (keeps.ends worker below)

  abbrev so_far : ℕ → ℕ → List (List ℕ) → List (List ℕ)
  so_far worker n ps =
      pieces_of (share_of d.workers worker 0 st.handed)
      ++ (if length st.handed % d.workers == worker then take n ps else [])

  none_yet : (worker : ℕ) → so_far worker 0 st.pieces ≡ so_far worker 0 pieces
  none_yet worker = refl

  same_pieces : (worker : ℕ)
      → pieces_at d.workers worker st.handed d.stage st.pieces ≡ pieces_at d.workers worker st.handed stage pieces
  same_pieces worker =
      ap (λ n. so_far worker n st.pieces) keeps.before ∙ none_yet worker
      ∙ sym (ap (λ n. so_far worker n pieces) keeps.behind)

  served_then : length slices.items + moves ≤ length d.slices.items + d.moves → (worker : ℕ) → worker < d.workers
      → HasServed shared (moved_to d seat turns moves finds last slicer slices stage verdict) st.handed pieces worker
  served_then few worker below =
      let s = st.served worker below in
      record {
        end = s.end;
        end_is = s.end_is;
        sends = s.sends;
        jobs = s.jobs ∙ same_jobs worker below;
        sent =
            subst (λ (ps : List (List ℕ)). HasSent (view_of seat).own.notes d.workers worker ps) (same_pieces worker)
            (sent_then shared.pool.now d.workers turns moves (roots_at stage slices.items) d.seat seat went worker _
            s.sent);
        few =
            (let a = s.few in let b = went.sent worker in let c = keeps.before in let e = keeps.behind in
            omega (arith, a, b, c, e, few));
        room = λ m. (let a = s.room m in let b = went.sent worker in omega (arith, a, b));
      }

  pub moved : (more : List ℕ) → AreSlices (view_of seat).own.notes (Some d.workers) slices.items pieces
      → length slices.items + moves ≤ length d.slices.items + d.moves
      → IsUnderway stage (moved_to d seat turns moves finds last slicer slices stage verdict) more st.handed pieces
      → CutterStands shared (moved_to d seat turns moves finds last slicer slices stage verdict) more
  moved more are few underway = record {
    stands = stands_then;
    block = block_then;
    counts = went.counts;
    handed = st.handed;
    pieces = pieces;
    frames = st.frames;
    fresh = went.fresh;
    slices = are;
    served = served_then few;
    others = λ to above.
        sent_then shared.pool.now d.workers turns moves (roots_at stage slices.items) d.seat seat went to []
        (st.others to above);
    underway = underway;
  }
