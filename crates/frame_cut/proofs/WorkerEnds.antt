-- What each worker told at the end is what is to be told of its share of the frames.
use Rattle.std.proofs.Common.{◌≡◌, ℕ, ◌<◌, List, [], ◌∷◌, ◌++◌, length, ap, sym, ◌∙◌, subst, arith, Some, append-nil}
use Rattle.std.specs.Prelude.{◌%◌, ◌==◌, Option, slice_get}
use Rattle.crossbeam_queue.specs.Passes.{Pass, view}
use Rattle.job_queue.specs.declared.jobs.Job.{Job}
use Rattle.job_queue.specs.declared.jobs.Job.TheVariants.{End}
use Rattle.job_queue.specs.declared.jobs.JobLog.{JobLog}
use Rattle.pool_law.specs.declared.run.Shape.{Shape}
use Rattle.shared_pool.specs.declared.seat.PoolSeat.{PoolSeat}
use Rattle.shared_pool.specs.Closing.{AreWhole}
use Rattle.shared_pool.specs.Seated.{parts_in}
use Rattle.shared_pool.specs.SeatViews.{view_of}
use Rattle.frame_hash.specs.declared.shared.Shared.{Shared}
use Rattle.frame_hash.specs.declared.worker.Work.{Work}
use Rattle.frame_hash.specs.declared.worker.Work.TheVariants.{Done}
use Rattle.frame_hash.specs.declared.worker.Worker.{Worker}
use Rattle.frame_hash.specs.Standing.{IsAtWork, IsOver, WorkerStands}
use Rattle.frame_hash.specs.Takes.{HasTaken, WriteNothing}
use Rattle.frame_hash.specs.Told.{all_told, jobs_of, pieces_of, share_of, slices_in, to_tell}
use Rattle.frame_hash.proofs.QuietLaws.{none-either}
use Rattle.frame_hash.proofs.ToldLaws.{slices-handed, told-handed}
use Rattle.frame_cutter.specs.declared.cutter.Cutter.{Cutter}
use Rattle.frame_cutter.specs.declared.stage.Stage.TheVariants.{Over}
use Rattle.frame_cutter.specs.Sends.{HasSent}
use Rattle.frame_cutter.specs.Stages.{jobs_at, pieces_at}
use Rattle.frame_cutter.specs.Standing.{CutterStands}
use Rattle.frame_cut.specs.Tellings.{HasGot}
use Rattle.frame_cut.proofs.JoinedPieces.{all_taken}
use Rattle.frame_cut.proofs.SeatLogs.{notes_of}
use Rattle.frame_cut.proofs.ShareLaws.{all_got}

-- ---- One worker.

-- the worker stands at its place
pub record StandsThere (shared : Shared) (workers k : ℕ) (w : Worker) : Type 0 where
  pub stands : WorkerStands shared w
  pub number : w.number ≡ k
  pub cutter : w.cutter ≡ workers

-- what went to a worker at the end: its share
over_pieces : (workers worker : ℕ) (handed : List (List (List ℕ))) (pieces : List (List ℕ))
    → pieces_at workers worker handed Over pieces ≡ pieces_of (share_of workers worker 0 handed)
over_pieces workers worker handed pieces =
    ap (λ ps. pieces_of (share_of workers worker 0 handed) ++ ps) (none-either (length handed % workers == worker))
    ∙ append-nil (pieces_of (share_of workers worker 0 handed))

module _ (shared : Shared) (d : Cutter) (read : List ℕ) (cutter : CutterStands shared d read) (over : d.stage ≡ Over)
    (k : ℕ) (w : Worker) (below : k < d.workers) (stands : StandsThere shared d.workers k w) (done : w.work ≡ Done)
    (joins : HasGot d.ends.items k w.jobs) where
  own : IsOver (view w.jobs).got stands.stands.pieces w.hashes.items
  own = subst (λ (x : Work). IsAtWork x (view w.jobs).got stands.stands.pieces w.hashes.items) done stands.stands.work

  same_jobs : own.done ≡ jobs_of (share_of d.workers k 0 cutter.handed)
  same_jobs =
      let served = cutter.served k below in
      let ends : ◌≡◌ {A = Option (Pass Job JobLog)} (Some served.end) (Some joins.end) =
      sym served.end_is ∙ joins.end_is in
      let same : served.end ≡ joins.end = cc ends in
      let sent : (view served.end).sent ≡ jobs_of (share_of d.workers k 0 cutter.handed) ++ End ∷ [] =
      served.jobs ∙ ap (jobs_at d.workers k cutter.handed) over in
      all_got (share_of d.workers k 0 cutter.handed) own.done joins.left
      (sym sent ∙ ap (λ (e : Pass Job JobLog). (view e).sent) same ∙ joins.sent
      ∙ ap (λ js. js ++ joins.left) own.jobs_are)

  pub sent_is : HasSent (notes_of d.seat) d.workers k (pieces_of (share_of d.workers k 0 cutter.handed))
  sent_is =
      let served = cutter.served k below in
      subst (HasSent (notes_of d.seat) d.workers k)
      (ap (λ s. pieces_at d.workers k cutter.handed s cutter.pieces) over
      ∙ over_pieces d.workers k cutter.handed cutter.pieces)
      served.sent

  pub taken_is : HasTaken (view_of w.seat) d.workers k stands.stands.pieces
  taken_is =
      subst (λ (x : ℕ × ℕ). HasTaken (view_of w.seat) x.0 x.1 stands.stands.pieces)
      (λ i. (stands.cutter i, stands.number i)) stands.stands.taken

  -- as many pieces came as were sent
  pub as_many : length stands.stands.pieces ≡ length (pieces_of (share_of d.workers k 0 cutter.handed))
  as_many =
      let mine = own.told.slices in
      let jobs = ap slices_in same_jobs in
      let all = slices-handed (share_of d.workers k 0 cutter.handed) in
      omega (arith, mine, jobs, all)

  module _ (shape : Shape) (seats : List PoolSeat) (whole : AreWhole shape (parts_in seats))
      (its_seat : slice_get seats d.workers ≡ Some d.seat)
      (others : (lane : ℕ) (s : PoolSeat) → (lane ≡ d.workers → ⊥) → slice_get seats lane ≡ Some s
      → WriteNothing (notes_of s)) (there : slice_get seats k ≡ Some w.seat) where
    same_pieces : stands.stands.pieces ≡ pieces_of (share_of d.workers k 0 cutter.handed)
    same_pieces =
        all_taken shape seats whole d.workers d.seat its_seat cutter.fresh others k w.seat there
        (view_of w.seat).own.number (pieces_of (share_of d.workers k 0 cutter.handed)) stands.stands.pieces
        sent_is.each taken_is.each as_many

    pub all_tell : w.hashes.items ≡ to_tell (share_of d.workers k 0 cutter.handed)
    all_tell =
        own.told.told
        ∙ (λ i. all_told (same_jobs i) (same_pieces i))
        ∙ told-handed (share_of d.workers k 0 cutter.handed)
