-- How the cutter and its workers start, and how they stand behind all their steps.
use Rattle.std.proofs.Common.{◌≡◌, ℕ, ◌<◌, false, List, [], length, refl, ap, sym, ◌∙◌, subst, arith, All, Option, Some, None, get_or}
use Rattle.std.specs.Prelude.{HoldsAt, slice_get}
use Rattle.std.specs.Io.KnownBytes.{Consumes}
use Rattle.std.proofs.lemmas.Option.{slice_get-get_or, slice_get_within}
use Rattle.job_queue.specs.Jobs.{IsReceiver}
use Rattle.seat_work.specs.Hands.{empty_hand}
use Rattle.seat_work.specs.Works.{Works}
use Rattle.seat_work.proofs.FirstSeats.{has_nothing}
use Rattle.shared_pool.specs.declared.pool.SharedPool.{SharedPool}
use Rattle.shared_pool.specs.declared.seat.PoolSeat.{PoolSeat}
use Rattle.shared_pool.specs.Seated.{IsDone}
use Rattle.shared_pool.specs.SeatViews.{view_of}
use Rattle.work_table.specs.Places.{EachCame}
use Rattle.frame_hash.specs.declared.shared.Shared.{Shared}
use Rattle.frame_hash.specs.declared.worker.Worker.{Worker}
use Rattle.frame_hash.specs.Standing.{WorkerCame, WorkerStands}
use Rattle.frame_cutter.specs.declared.cutting.Cutting as machines
use Rattle.frame_cutter.specs.declared.cutter.Cutter.{Cutter}
use Rattle.frame_cutter.specs.declared.stage.Verdict.TheVariants.{Whole}
use Rattle.frame_cutter.specs.Standing.{CuttingCame, CutterCame, CutterStands, is_fault}
use Rattle.frame_cut.specs.declared.openings.Opened.{Opened}
use Rattle.frame_cut.specs.Tellings.{HasEnds, IsOpen, IsSharedOf}
use Rattle.frame_cut.proofs.WorkerEnds.{StandsThere}

consumes_none : (left : Option (List ℕ)) → Consumes left left []
consumes_none None = tt
consumes_none (Some xs) = refl

-- the cutter that has read nothing has come of itself
started : {S : Type 0} (left : S → Option (List ℕ)) (faults : S → ℕ) (shared : Shared) (source : S) (d : Cutter)
    → CutterStands shared d [] → d.last ≡ false → d.verdict ≡ Whole → CutterCame left faults shared source source d d
started left faults shared source d stands last sound =
    let none : is_fault d.verdict ≡ false = ap is_fault sound in
    record {
      read = [];
      stands = stands;
      workers = refl;
      block = refl;
      bytes = λ ok. consumes_none (left source);
      end = λ ok yes. absurd (cc (sym last ∙ yes));
      faults_are = record { fault = λ yes. absurd (cc (sym none ∙ yes)); none = λ ok. refl };
    }

-- and so has its cutter
pub cutter_started : {S : Type 0} (left : S → Option (List ℕ)) (faults : S → ℕ)
    (shared : Shared) (c : machines.Cutting S)
    → CutterStands shared c.cutter.now [] → c.cutter.now.last ≡ false → c.cutter.now.verdict ≡ Whole
    → CuttingCame left faults shared c c
cutter_started left faults shared c stands last sound = record {
  source = refl;
  cutter = refl;
  came = started left faults shared c.source.now c.cutter.now stands last sound;
}

-- and each worker
pub came_first : (shared : Shared) (ws : List Worker) → All (WorkerStands shared) ws
    → All (λ (w : Worker). WorkerCame shared w w) ws
came_first shared ws stand k d lt = record { stands = stand k d lt; same = record { number = refl; cutter = refl } }

-- the workers of a cutter, each at its place
pub record HasRun (shared : Shared) (d : Cutter) (ws : List Worker) : Type 0 where
  pub many : length ws ≡ d.workers
  pub stand : (k : ℕ) (w : Worker) → slice_get ws k ≡ Some w → StandsThere shared d.workers k w

module _ (shared : Shared) (workers block : ℕ) (o : Opened) (open' : IsOpen workers block o)
    (same : IsSharedOf shared o) where
  pub all_stand : All (WorkerStands shared) o.workers.items
  all_stand k d lt =
      (open'.ready shared same k (get_or o.workers.items k d) (slice_get-get_or o.workers.items k d lt)).stands

  stand_there : (ws : List Worker) → EachCame (WorkerCame shared) o.workers.items ws → (k : ℕ) (w : Worker)
      → slice_get ws k ≡ Some w → StandsThere shared workers k w
  stand_there ws came k w e =
      let at = came k w e in
      let h = open'.ready shared same k at.0 at.1 in
      record {
        stands = at.2.stands;
        number = at.2.same.number ∙ h.number;
        cutter = at.2.same.cutter ∙ h.cutter;
      }

  -- as many as there were, each at its place
  pub has_run : (d : Cutter) → d.workers ≡ o.cutter.workers → (ws : List Worker)
      → EachCame (WorkerCame shared) o.workers.items ws → length ws ≡ length o.workers.items → HasRun shared d ws
  has_run d workers_are ws came count =
      let n : d.workers ≡ workers = workers_are ∙ open'.count in
      record {
        many = (let a = open'.many in omega (arith, n, a, count));
        stand = λ k w e. subst (λ m. StandsThere shared m k w) (sym n) (stand_there ws came k w e);
      }

-- ---- Their queues and their seats.

-- the ends of each worker's queue
module _ (shared : Shared) (d : Cutter) (read : List ℕ) (ws : List Worker) (cutter : CutterStands shared d read)
    (run : HasRun shared d ws) where
  pub queues_many : length ws ≡ length shared.queues.now
  queues_many = let a = cutter.stands.queues in let b = run.many in omega (arith, a, b)

  pub has_ends : (k : ℕ) (w : Worker) → slice_get ws k ≡ Some w → HasEnds shared.queues.now d.ends.items k w.jobs
  has_ends k w e =
      let within = slice_get_within ws k w e in
      let there = run.stand k w e in
      let below : k < d.workers = (let a = run.many in omega (arith, a, within)) in
      let served = cutter.served k below in
      record {
        inside = (let a = cutter.stands.queues in omega (arith, a, below));
        end = served.end;
        end_is = served.end_is;
        sends = served.sends;
        receives =
            subst (λ n. HoldsAt (λ q. IsReceiver q w.jobs) shared.queues.now n) there.number there.stands.receives;
      }

-- a seat with nothing in hand is done
done_seat : (pool : SharedPool) (turns moves lane : ℕ) (s : PoolSeat) → Works pool empty_hand turns moves s
    → (view_of s).own.number ≡ Some lane → IsDone pool lane s
done_seat pool turns moves lane s works number =
    record { seat = works.seat; number = number; nothing = has_nothing (view_of s) works.held }

pub cutter_done : (shared : Shared) (d : Cutter) (read : List ℕ) → CutterStands shared d read
    → IsDone shared.pool.now d.workers d.seat
cutter_done shared d read cutter =
    done_seat shared.pool.now d.turns d.moves d.workers d.seat cutter.stands.works cutter.stands.lane

pub worker_done : (shared : Shared) (workers k : ℕ) (w : Worker) → StandsThere shared workers k w
    → IsDone shared.pool.now k w.seat
worker_done shared workers k w there =
    done_seat shared.pool.now w.turns 0 k w.seat there.stands.works
    (there.stands.lane ∙ ap (λ n. Some n) there.number)
