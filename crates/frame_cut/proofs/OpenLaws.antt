-- What a run begins with stands: a pool, the workers and the cutter, before anything is done.
use Rattle.std.proofs.Common.{◌≡◌, ℕ, ◌+◌, ◌%◌, ◌==◌, ◌<◌, ◌≤◌, Bool, true, false, List, [], length, vec_capacity, refl, sym, ap, ◌∙◌, subst, arith, Some}
use Rattle.std.specs.Prelude.{HoldsAt, if◌then◌else◌, replicate, slice_get, slice_index}
use Rattle.std.proofs.lemmas.List.{get_or-replicate, length-replicate}
use Rattle.std.proofs.lemmas.Option.{get_or_from_slice_get, slice_get_within}
use Rattle.crossbeam_queue.specs.Passes.{Pass, view}
use Rattle.size_classes.specs.declared.TheConstants.{DEFAULT_PAGE}
use Rattle.size_classes.specs.Sizes.{class_of, of_pages}
use Rattle.job_queue.specs.declared.jobs.Job.{Job}
use Rattle.job_queue.specs.declared.jobs.JobLog.{JobLog}
use Rattle.job_queue.specs.Jobs.{IsReceiver, IsSender}
use Rattle.pool_law.specs.declared.id.ViewData.{ViewData}
use Rattle.pool_law.specs.Limits.{geometry_of}
use Rattle.pool_table.specs.declared.views.Entry.{Entry}
use Rattle.pool_table.specs.declared.views.Layout.{Layout}
use Rattle.pool_table.specs.declared.views.SeatView.{SeatView}
use Rattle.pool_table.specs.Counts.{gained_of, lost_of}
use Rattle.pool_table.specs.Letters.{sent_on}
use Rattle.shared_pool.specs.declared.pool.SharedPool.{SharedPool}
use Rattle.shared_pool.specs.declared.seat.PoolSeat.{PoolSeat}
use Rattle.shared_pool.specs.MailAnswers.{RoomFor}
use Rattle.shared_pool.specs.Opening.{IsOpened}
use Rattle.shared_pool.specs.SeatViews.{view_of}
use Rattle.seat_work.specs.Hands.{empty_hand}
use Rattle.seat_work.specs.Works.{Works}
use Rattle.seat_work.proofs.FirstSeats.{opened_works}
use Rattle.frame_core.proofs.StandingLaws.{frames_of-nil}
use Rattle.frame_hash.specs.declared.hashes.HashOf.{HashOf}
use Rattle.frame_hash.specs.declared.shared.Shared.{Shared}
use Rattle.frame_hash.specs.declared.worker.Work.{Work}
use Rattle.frame_hash.specs.declared.worker.Work.TheVariants as works
use Rattle.frame_hash.specs.declared.worker.Worker.{Worker}
use Rattle.frame_hash.specs.Standing.{IsAtWork, WorkerStands}
use Rattle.frame_hash.specs.Takes.{CountsNone, HasTaken, PostNothing, WriteNothing, fetches_in}
use Rattle.frame_cutter.specs.declared.cutter.Cutter.{Cutter}
use Rattle.frame_cutter.specs.declared.stage.Stage.{Stage}
use Rattle.frame_cutter.specs.declared.stage.Stage.TheVariants.{Filling}
use Rattle.frame_cutter.specs.Sends.{AreSlices, HasSent, WriteFresh}
use Rattle.frame_cutter.specs.Stages.{jobs_at, pieces_at, roots_at}
use Rattle.frame_cutter.specs.Standing.{CountsJust, CutterStands, HasBlock, HasServed, IsUnderway, StandsAt}
use Rattle.frame_cut.specs.declared.openings.Opened.{Opened}
use Rattle.frame_cut.specs.declared.openings.TheConstants.{ORDER}
use Rattle.frame_cut.specs.Openings.{AreNewWorkers, AreLines, IsNewCutter, IsNewPool, IsNewWorker, layout_of}
use Rattle.frame_cut.specs.Tellings.{IsIdle, IsOpen, IsSharedOf}
use Rattle.frame_cut.proofs.ListSteps.{there}

-- ---- A seat without notes.

counts_none : (v : SeatView) → v.own.notes ≡ [] → v.others ≡ [] → CountsNone v
counts_none v notes others root =
    subst (λ (u : SeatView). gained_of root u ≡ lost_of root u)
    (λ i. record v { own = record { number = v.own.number; notes = sym notes i }; others = sym others i })
    refl

writes_none : (es : List Entry) → es ≡ [] → WriteFresh es
writes_none es none = subst WriteFresh (sym none) (λ at noted offset bytes w. absurd (cc w.stands))

sent_none : (es : List Entry) (sender receiver : ℕ) → es ≡ [] → HasSent es sender receiver []
sent_none es sender receiver none =
    subst (λ (ns : List Entry). HasSent ns sender receiver []) (sym none)
    (record { count = refl; each = λ k piece e. absurd (cc e) })

taken_none : (v : SeatView) (sender receiver : ℕ) → v.own.notes ≡ [] → v.others ≡ [] → HasTaken v sender receiver []
taken_none v sender receiver notes others = record {
  count = ap (fetches_in sender receiver) notes;
  each = λ k piece e. absurd (cc e);
  unwritten = subst WriteNothing (sym notes) (λ at number offset root bytes e. absurd (cc e));
  unposted = subst PostNothing (sym notes) (λ from to. refl);
  even = counts_none v notes others;
}

-- ---- A new pool.

module _ (workers : ℕ) {room : ℕ} (pool : SharedPool) (seats : List PoolSeat)
    (new : IsNewPool workers room pool seats) where
  layout_is : pool.table.layout ≡ layout_of (workers + 1)
  layout_is = pool.same_layout ∙ new.layout

  lanes_are : pool.table.layout.shape.lanes ≡ workers + 1
  lanes_are = ap (λ (l : Layout). l.shape.lanes) layout_is

  opened_at : (k : ℕ) (s : PoolSeat) → k ≤ workers → slice_get seats k ≡ Some s
      → IsOpened (layout_of (workers + 1)) pool k s
  opened_at k s le e =
      subst (IsOpened (layout_of (workers + 1)) pool k) (get_or_from_slice_get seats k s s e)
      (new.opened.each k (omega (arith, le)) s)

-- ---- A worker.

none_told : (w : Work) (got : List Job) (hashes : List HashOf) → w ≡ works.Idle → got ≡ [] → hashes ≡ []
    → IsAtWork w got [] hashes
none_told w got hashes idle none empty =
    subst (λ (x : Work × (List Job × List HashOf)). IsAtWork x.0 x.1.0 [] x.1.1)
    (λ i. (sym idle i, (sym none i, sym empty i)))
    (record { told = refl; slices = refl })

module _ (workers : ℕ) {room : ℕ} (o : Opened) (seats : List PoolSeat) (senders receivers : List (Pass Job JobLog))
    (new : IsNewPool workers room o.pool seats)
    (lines : AreLines workers o.queues.items senders receivers)
    (ready : AreNewWorkers workers seats receivers workers o.workers.items) where
  module _ (shared : Shared) (is : IsSharedOf shared o) where
    -- its queue
    line_at : (k : ℕ) → k < workers → (sender receiver : Pass Job JobLog) → slice_get senders k ≡ Some sender
        → slice_get receivers k ≡ Some receiver
        → HoldsAt (λ q. IsSender q sender) shared.queues.now k
        × HoldsAt (λ q. IsReceiver q receiver) shared.queues.now k
    line_at k lt sender receiver a b =
        let q = there o.queues.items k (let n = lines.queues_many in omega (arith, n, lt)) in
        let line = lines.each k q.0 sender receiver q.1 a b in
        subst (λ qs. HoldsAt (λ q. IsSender q sender) qs k × HoldsAt (λ q. IsReceiver q receiver) qs k)
        (sym is.queues) (
          λ d.
              subst (λ x. IsSender x sender) (sym (get_or_from_slice_get o.queues.items k q.0 d q.1))
              line.sends,
          λ d.
              subst (λ x. IsReceiver x receiver) (sym (get_or_from_slice_get o.queues.items k q.0 d q.1))
              line.receives,
        )

    queues_many : length shared.queues.now ≡ workers
    queues_many = ap (λ qs. length qs) is.queues ∙ lines.queues_many

    pool_lanes : shared.pool.now.table.layout.shape.lanes ≡ workers + 1
    pool_lanes = ap (λ (p : SharedPool). p.table.layout.shape.lanes) is.pool ∙ lanes_are workers o.pool seats new

    module _ (k : ℕ) (w : Worker) (lt : k < workers) (seat : PoolSeat) (jobs : Pass Job JobLog)
        (seat_at : slice_get seats k ≡ Some seat) (jobs_at : slice_get receivers k ≡ Some jobs)
        (one : IsNewWorker workers k seat jobs w) where
      opened : IsOpened (layout_of (workers + 1)) o.pool k w.seat
      opened =
          subst (IsOpened (layout_of (workers + 1)) o.pool k) (sym one.seat_is)
          (opened_at workers o.pool seats new k seat (omega (arith, lt)) seat_at)

      got_none : (view w.jobs).got ≡ []
      got_none =
          let s = there senders k (let n = lines.senders_many in omega (arith, n, lt)) in
          let q = there o.queues.items k (let n = lines.queues_many in omega (arith, n, lt)) in
          ap (λ (j : Pass Job JobLog). (view j).got) one.jobs_are
          ∙ (lines.each k q.0 s.0 jobs q.1 s.1 jobs_at).got

      worker_stands : WorkerStands shared w
      worker_stands = record {
        works =
            subst (λ (p : SharedPool). Works p empty_hand w.turns 0 w.seat) (sym is.pool)
            (opened_works o.pool (layout_of (workers + 1)) k w.turns 0 w.seat opened
            (let a = one.turns in omega (arith, a)) (omega arith));
        lane = opened.number ∙ ap (λ (n : ℕ). Some n) (sym one.number_is);
        cutter = (let a = one.cutter_is in let b = pool_lanes in omega (arith, a, b));
        number = (let a = one.number_is in let b = queues_many in omega (arith, a, b, lt));
        receives =
            (let s = there senders k (let n = lines.senders_many in omega (arith, n, lt)) in
            subst (λ (x : ℕ × Pass Job JobLog). HoldsAt (λ q. IsReceiver q x.1) shared.queues.now x.0)
            (λ i. (sym one.number_is i, sym one.jobs_are i))
            (line_at k lt s.0 jobs s.1 jobs_at).1);
        pieces = [];
        taken =
            taken_none (view_of w.seat) w.cutter w.number opened.notes opened.seat.alone;
        work = none_told w.work (view w.jobs).got w.hashes.items one.work got_none one.hashes;
      }

    pub each_ready : (k : ℕ) (w : Worker) → slice_get o.workers.items k ≡ Some w → IsIdle shared workers k w
    each_ready k w e =
        let x = ready.each k w e in
        let lt : k < workers = (let a = slice_get_within o.workers.items k w e in let b = ready.many in
        omega (arith, a, b)) in
        let one = x.1.1.2 in
        record {
          stands = worker_stands k w lt x.0 x.1.0 x.1.1.0 x.1.1.1 one;
          number = one.number_is;
          cutter = one.cutter_is;
          idle = got_none k w lt x.0 x.1.0 x.1.1.0 x.1.1.1 one;
        }

-- ---- The cutter.

nothing_taken : (b : Bool) → ◌≡◌ {A = List (List ℕ)} (if b then [] else []) []
nothing_taken true = refl
nothing_taken false = refl

module _ (workers room : ℕ) (o : Opened) (seats : List PoolSeat) (own : PoolSeat)
    (senders receivers : List (Pass Job JobLog)) (rooms : List ℕ) (rooms_are : rooms ≡ replicate workers room)
    (block class : ℕ) (some : 0 < workers)
    (new : IsNewPool workers room o.pool seats)
    (lines : AreLines workers o.queues.items senders receivers)
    (ready : AreNewWorkers workers seats receivers workers o.workers.items)
    (own_at : slice_get seats workers ≡ Some own)
    (cutter : IsNewCutter workers own senders rooms block class o.cutter)
    (long : 0 < block) (short : block ≤ 65536)
    (class_at : class_of (of_pages ORDER DEFAULT_PAGE) block ≡ Some class)
    (shared : Shared) (is : IsSharedOf shared o) where
  abbrev d : Cutter
  d = o.cutter

  cutter_opened : IsOpened (layout_of (workers + 1)) o.pool workers d.seat
  cutter_opened =
      subst (IsOpened (layout_of (workers + 1)) o.pool workers) (sym cutter.seat_is)
      (opened_at workers o.pool seats new workers own (omega arith) own_at)

  abbrev notes : List Entry
  notes = (view_of d.seat).own.notes

  stands_at : StandsAt shared d
  stands_at = record {
    works =
        subst (λ (p : SharedPool). Works p empty_hand d.turns d.moves d.seat) (sym is.pool)
        (opened_works o.pool (layout_of (workers + 1)) workers d.turns d.moves d.seat cutter_opened
        (let a = cutter.turns in omega (arith, a)) (let a = cutter.moves in omega (arith, a)));
    lane = cutter_opened.number ∙ ap (λ (n : ℕ). Some n) (sym cutter.workers_are);
    lanes =
        (let a = ap (λ (p : SharedPool). p.table.layout.shape.lanes) is.pool in
        let b = lanes_are workers o.pool seats new in let c = cutter.workers_are in omega (arith, a, b, c));
    some = (let a = cutter.workers_are in omega (arith, a, some));
    queues =
        (let a = ap (λ qs. length qs) is.queues in let b = lines.queues_many in let c = cutter.workers_are in
        omega (arith, a, b, c));
    ends =
        (let a = ap (λ (es : List (Pass Job JobLog)). length es) cutter.ends_are in let b = lines.senders_many in
        let c = cutter.workers_are in omega (arith, a, b, c));
    rooms =
        (let a = ap (λ (ns : List ℕ). length ns) (cutter.rooms_are ∙ rooms_are) in
        let b = length-replicate workers room in let c = cutter.workers_are in omega (arith, a, b, c));
  }

  has_block : HasBlock shared d
  has_block = record {
    some = (let a = cutter.block_is in omega (arith, a, long));
    few = (let a = cutter.block_is in omega (arith, a, short));
    class =
        (λ i. class_of (geometry_of (is.pool i).table.layout.shape) (cutter.block_is i))
        ∙ ap (λ (l : Layout). class_of (geometry_of l.shape) block) (layout_is workers o.pool seats new)
        ∙ class_at
        ∙ ap (λ (n : ℕ). Some n) (sym cutter.class_is);
  }

  no_pieces : (worker : ℕ) → pieces_at d.workers worker [] d.stage [] ≡ []
  no_pieces worker =
      ap (λ (s : Stage). pieces_at d.workers worker [] s []) cutter.stage
      ∙ nothing_taken (0 % d.workers == worker)

  room_here : (worker : ℕ) → worker < workers → RoomFor shared.pool.now d.workers worker room
  room_here worker below =
      subst (λ (x : SharedPool × ℕ). RoomFor x.0 x.1 worker room)
      (λ i. (sym is.pool i, sym cutter.workers_are i)) (new.rooms worker below)

  has_served : (worker : ℕ) → worker < d.workers → HasServed shared d [] [] worker
  has_served worker lt =
      let below : worker < workers = (let a = cutter.workers_are in omega (arith, a, lt)) in
      let s = there senders worker (let n = lines.senders_many in omega (arith, n, below)) in
      let r = there receivers worker (let n = lines.receivers_many in omega (arith, n, below)) in
      let q = there o.queues.items worker (let n = lines.queues_many in omega (arith, n, below)) in
      record {
        end = s.0;
        end_is = ap (λ (es : List (Pass Job JobLog)). slice_get es worker) cutter.ends_are ∙ s.1;
        sends = (line_at workers o seats senders receivers new lines ready shared is worker below s.0 r.0 s.1 r.1).0;
        jobs =
            (lines.each worker q.0 s.0 r.0 q.1 s.1 r.1).sent
            ∙ ap (λ (st : Stage). jobs_at d.workers worker [] st) (sym cutter.stage);
        sent =
            subst (HasSent notes d.workers worker) (sym (no_pieces worker))
            (sent_none notes d.workers worker cutter_opened.notes);
        few =
            (let a = ap (sent_on d.workers worker) cutter_opened.notes in
            let b = ap (λ vs. length vs) cutter.slices in let c = cutter.moves in omega (arith, a, b, c));
        room = λ m.
            (let a = ap (sent_on d.workers worker) cutter_opened.notes in
            let b = ap (λ (ns : List ℕ). slice_index ns worker) (cutter.rooms_are ∙ rooms_are) in
            let c = get_or-replicate workers worker room 0 below in
            let e = room_here worker below m in omega (arith, a, b, c, e));
      }

  begins : IsUnderway Filling d [] [] []
  begins = (cutter.last, record { frames = frames_of-nil; healthy = cutter.verdict }, cutter.cut, (0, omega arith))

  counts_just : CountsJust (roots_at d.stage d.slices.items) (view_of d.seat)
  counts_just root =
      let even = counts_none (view_of d.seat) cutter_opened.notes cutter_opened.seat.alone in
      subst (λ (x : Stage × List ViewData). CountsJust (roots_at x.0 x.1) (view_of d.seat))
      (λ i. (sym cutter.stage i, sym cutter.slices i))
      (λ r. (let a = even r in omega (arith, a))) root

  pub cutter_stands : CutterStands shared d []
  cutter_stands = record {
    stands = stands_at;
    block = has_block;
    counts = counts_just;
    handed = [];
    pieces = [];
    frames = cutter.frames;
    fresh = writes_none notes cutter_opened.notes;
    slices =
        subst (λ vs. AreSlices notes (Some d.workers) vs []) (sym cutter.slices)
        (record { many = refl; each = λ k v piece e f. absurd (cc e) });
    served = has_served;
    others = λ to le. sent_none notes d.workers to cutter_opened.notes;
    underway = subst (λ (s : Stage). IsUnderway s d [] [] []) (sym cutter.stage) begins;
  }

-- ---- All of it.

pub is_open : (workers room : ℕ) (o : Opened) (seats : List PoolSeat) (own : PoolSeat)
    (senders receivers : List (Pass Job JobLog)) (rooms : List ℕ) → rooms ≡ replicate workers room
    → (block class : ℕ) → 0 < workers
    → IsNewPool workers room o.pool seats → AreLines workers o.queues.items senders receivers
    → AreNewWorkers workers seats receivers workers o.workers.items → slice_get seats workers ≡ Some own
    → IsNewCutter workers own senders rooms block class o.cutter → 0 < block → block ≤ 65536
    → class_of (of_pages ORDER DEFAULT_PAGE) block ≡ Some class
    → (o.seats.items ≡ []) × (workers + 1 ≤ vec_capacity o.seats)
    → (o.told.items ≡ []) × (workers ≤ vec_capacity o.told) → IsOpen workers block o
is_open w room o seats own senders receivers rooms rooms_are block class some new lines ready own_at made long short
    class_at left told =
    record {
      cutter = λ shared at.
          cutter_stands w room o seats own senders receivers rooms rooms_are block class some new lines ready own_at
          made long short class_at shared at;
      count = made.workers_are;
      long = made.block_is;
      some = some;
      many = ready.many;
      ready = λ shared at k x e. each_ready w o seats senders receivers new lines ready shared at k x e;
      seats = left;
      told = told;
      begun = (made.last, made.verdict);
    }
