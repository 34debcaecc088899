-- A stream from its opening to what is told of it.
use Rattle.std.proofs.Common.{◌≡◌, ℕ, false, List, [], ◌∷◌, ◌++◌, length, map, refl, sym, subst, All, Ok, Err, Option, Result, Some}
use Rattle.std.specs.Prelude.{IfOk, OnErr, OnOk, slice_get}
use Rattle.pool_law.specs.declared.run.Shape.{Shape}
use Rattle.shared_pool.specs.declared.seat.PoolSeat.{PoolSeat}
use Rattle.shared_pool.specs.Closing.{AreWhole}
use Rattle.shared_pool.specs.Seated.{AreDone, parts_in}
use Rattle.shared_pool.specs.Seats.{IsPoolSeat}
use Rattle.text_ends.specs.Spans.{SourceSpan, source_span}
use Rattle.work_table.specs.Places.{EachCame}
use Rattle.frame_hash.specs.declared.shared.Shared.{Shared}
use Rattle.frame_hash.specs.declared.worker.Work.TheVariants.{Done}
use Rattle.frame_hash.specs.declared.worker.Worker.{Worker}
use Rattle.frame_hash.specs.Standing.{WorkerCame}
use Rattle.frame_cutter.specs.declared.cutter.Cutter.{Cutter}
use Rattle.frame_cutter.specs.declared.stage.Stage.TheVariants.{Over}
use Rattle.frame_cutter.specs.declared.stage.Verdict.{Verdict}
use Rattle.frame_cutter.specs.declared.stage.Verdict.TheVariants.{Whole, Refused, Fault}
use Rattle.frame_cutter.specs.Standing.{CutterCame, is_fault}
use Rattle.frame_cut.specs.declared.closing.StreamEnd.{StreamEnd}
use Rattle.frame_cut.specs.declared.openings.Opened.{Opened}
use Rattle.frame_cut.specs.Closed.{AreSpent}
use Rattle.frame_cut.specs.Tellings.{HasEnds, HasGot, HasTold, IsOpen, IsSharedOf}
use Rattle.frame_cut.proofs.Answered.{no_fault, told_fault, told_of_stream}
use Rattle.frame_cut.proofs.Running.{HasRun, has_ends, has_run, queues_many}
use Rattle.frame_cut.proofs.SpentLaws.{all_spent}
use Rattle.frame_cut.proofs.Together.{AreTogether, all_done, all_seats}

-- what holds in any case holds where a call came well
pub always : {A E X : Type 0} (r : Result A E) → X → OnOk r X
always (Ok a) x = x
always (Err e) x = tt

-- what follows where it came well
pub follows : {A E X Y : Type 0} (r : Result A E) → (X → Y) → OnOk r X → OnOk r Y
follows (Ok a) f x = f x
follows (Err e) f x = tt

-- a read failed, where that isn't ruled out
faulty : (v : Verdict) → (is_fault v ≡ false → ⊥) → v ≡ Fault
faulty Whole h = absurd (h refl)
faulty (Refused why) h = absurd (h refl)
faulty Fault h = refl

module _ {S : Type 0} (left : S → Option (List ℕ)) (faults : S → ℕ) (shared : Shared) (workers block : ℕ) (o : Opened)
    (opened : IsOpen workers block o) (same : IsSharedOf shared o) (old new : S) (d : Cutter)
    (came : CutterCame left faults shared old new o.cutter d) (ws : List Worker)
    (each : EachCame (WorkerCame shared) o.workers.items ws) (count : length ws ≡ length o.workers.items) where
  abbrev src : SourceSpan
  src = source_span left faults old new

  run : HasRun shared d ws
  run = has_run shared workers block o opened same d came.workers ws each count

  pub run_many : length ws ≡ length shared.queues.now
  run_many = queues_many shared d came.read ws came.stands run

  pub run_ends : (k : ℕ) (w : Worker) → slice_get ws k ≡ Some w → HasEnds shared.queues.now d.ends.items k w.jobs
  run_ends = has_ends shared d came.read ws came.stands run

  module _ (seats : List PoolSeat) (seats_are : seats ≡ map (λ w. w.seat) ws ++ d.seat ∷ [])
      (joins : (k : ℕ) (w : Worker) → slice_get ws k ≡ Some w → HasGot d.ends.items k w.jobs) where
    all : AreTogether shared d ws seats
    all = record { seats_are = seats_are; many = run.many; stand = run.stand; joins = joins }

    pub run_seats : All (IsPoolSeat shared.pool.now) seats
    run_seats = all_seats shared d ws seats all came.read came.stands

    pub run_done : AreDone shared.pool.now seats
    run_done = all_done shared d ws seats all came.read came.stands

    module _ {A E : Type 0} (ended : Result A E)
        (finished : OnOk ended ((d.stage ≡ Over) × All (λ (w : Worker). w.work ≡ Done) ws)) where
      pub run_spent : OnOk ended (AreSpent seats)
      run_spent =
          follows ended (λ f. all_spent shared d ws seats all came.read came.stands f.0 f.1) finished

      module _ (shape : Shape) (told : StreamEnd) (hashes : told.hashes.items ≡ map (λ w. w.hashes) ws)
          (verdict : (told.verdict ≡ d.verdict) × (told.frames ≡ d.frames)) where
        -- where the pool was closed
        told_closed : (r : Result A E) → OnOk r ((d.stage ≡ Over) × All (λ (w : Worker). w.work ≡ Done) ws)
            → (OnErr r ⊥) → AreWhole shape (parts_in seats) → HasTold told.verdict told block src
        told_closed (Ok a) f none whole =
            told_of_stream left faults shared old new o.cutter d came block opened.long f.0 told ws seats shape all
            f.1 whole hashes verdict.1
            verdict.0
        told_closed (Err e) f none whole = absurd none

        told_by : {B F : Type 0} (closed : Result B F) → OnOk closed (OnErr ended ⊥)
            → OnOk closed (AreWhole shape (parts_in seats))
            → (is_fault told.verdict ≡ false → OnErr closed ⊥) → HasTold told.verdict told block src
        told_by (Ok b) well whole sound = told_closed ended finished well whole
        told_by (Err e) well whole sound =
            told_fault left faults shared old new o.cutter d came block opened.long told verdict.0
            (faulty told.verdict sound)

        -- what is answered
        pub run_told : {B F G : Type 0} (closed : Result B F) (answer : Result StreamEnd G)
            → OnOk closed (OnErr ended ⊥)
            → OnOk closed (AreWhole shape (parts_in seats)) → IfOk answer (λ a. a ≡ told)
            → OnOk answer (is_fault told.verdict ≡ false → OnErr closed ⊥)
            → IfOk answer (λ a. HasTold a.verdict a block src)
        run_told closed (Ok a) well whole is sound =
            subst (λ (t : StreamEnd). HasTold t.verdict t block src) (sym is) (told_by closed well whole sound)
        run_told closed (Err e) well whole is sound = tt

        pub run_none : {G : Type 0} (answer : Result StreamEnd G) → OnErr answer (is_fault told.verdict ≡ false)
            → OnErr answer (faults new ≡ faults old)
        run_none (Ok a) none = tt
        run_none (Err e) none = no_fault left faults shared old new o.cutter d came block opened.long told verdict.0
            none
