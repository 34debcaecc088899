-- At the end no seat counts a root, and each parcel was fetched.
use Rattle.std.proofs.Common.{◌≡◌, ℕ, zero, suc, ◌≤◌, List, [], ◌∷◌, length, map, refl, ap, sym, subst, arith, All, Some, inl, inr, ⊎_elim}
use Rattle.std.specs.Prelude.{slice_get}
use Rattle.std.proofs.lemmas.Bool.{cases_lt}
use Rattle.std.proofs.lemmas.List.{nil_from_length}
use Rattle.pool_law.specs.declared.note.Object.TheVariants.{Mail}
use Rattle.pool_law.specs.Logs.{of_lane}
use Rattle.pool_law.specs.Mails.{fetched, posted}
use Rattle.pool_law.proofs.ListLemmas.{item-at}
use Rattle.seat_work.specs.Changes.{times}
use Rattle.shared_pool.specs.declared.seat.PoolSeat.{PoolSeat}
use Rattle.shared_pool.specs.Closing.{note_of}
use Rattle.shared_pool.specs.SeatViews.{view_of}
use Rattle.frame_hash.specs.declared.shared.Shared.{Shared}
use Rattle.frame_hash.specs.declared.worker.Work.TheVariants.{Done}
use Rattle.frame_hash.specs.declared.worker.Worker.{Worker}
use Rattle.frame_hash.specs.Takes.{CountsNone}
use Rattle.frame_cutter.specs.declared.cutter.Cutter.{Cutter}
use Rattle.frame_cutter.specs.declared.stage.Stage.TheVariants.{Over}
use Rattle.frame_cutter.specs.Stages.{roots_at}
use Rattle.frame_cutter.specs.Standing.{CutterStands, IsUnderway}
use Rattle.frame_cut.specs.Closed.{AllFetched, AreSpent}
use Rattle.frame_cut.proofs.SeatLogs.{log_is, logs_of, notes_of}
use Rattle.frame_cut.proofs.Together.{AreTogether, done_there, either_seat, seat_of}
use Rattle.frame_cut.proofs.WorkerEnds.{as_many, sent_is, taken_is}

-- a lane without a seat has no log
no_log : (seats : List PoolSeat) (lane : ℕ) → length seats ≤ lane → of_lane (logs_of seats) lane ≡ []
no_log [] lane h = refl
no_log (s ∷ seats) zero h = absurd (omega (arith, h))
no_log (s ∷ seats) (suc lane) h = no_log seats lane (omega (arith, h))

module _ (shared : Shared) (d : Cutter) (ws : List Worker) (seats : List PoolSeat) (all : AreTogether shared d ws seats)
    (read : List ℕ) (cutter : CutterStands shared d read) (over : d.stage ≡ Over)
    (done : All (λ (w : Worker). w.work ≡ Done) ws) where
  no_pieces : cutter.pieces ≡ []
  no_pieces = (subst (λ s. IsUnderway s d read cutter.handed cutter.pieces) over cutter.underway).1

  no_slices : d.slices.items ≡ []
  no_slices =
      let many = cutter.slices.many in let none = ap (λ (ps : List (List ℕ)). length ps) no_pieces in
      nil_from_length d.slices.items (omega (arith, many, none))

  cutter_counts : CountsNone (view_of d.seat)
  cutter_counts root =
      let just = cutter.counts root in
      let none : times root (roots_at d.stage d.slices.items) ≡ 0 =
      λ i. times root (roots_at (over i) (no_slices i)) in
      omega (arith, just, none)

  counts : (lane : ℕ) (s : PoolSeat) → slice_get seats lane ≡ Some s → CountsNone (view_of s)
  counts lane s e =
      ⊎_elim (λ mine. subst (λ (x : PoolSeat). CountsNone (view_of x)) mine.2
      (all.stand lane mine.0 mine.1).stands.taken.even)
      (λ last. subst (λ (x : PoolSeat). CountsNone (view_of x)) last.1 cutter_counts)
      (either_seat shared d ws seats all lane s e)

  -- what the cutter posted
  from_cutter : (to : ℕ) → length (posted (Mail d.workers to) (map note_of (notes_of d.seat)))
      ≤ length (fetched (Mail d.workers to) (of_lane (logs_of seats) to))
  from_cutter to =
      elim (cases_lt to d.workers) [
        | inl low ↦
            (let there = item-at ws to (let a = all.many in omega (arith, low, a)) in
            let w = there.0 in
            let stands = all.stand to w there.1 in
            let joins = all.joins to w there.1 in
            let over_is = done_there shared d ws seats all read cutter over done to w there.1 in
            let sent = (sent_is shared d read cutter over to w low stands over_is joins).count in
            let taken = (taken_is shared d read cutter over to w low stands over_is joins).count in
            let many = as_many shared d read cutter over to w low stands over_is joins in
            let log = ap (λ l. length (fetched (Mail d.workers to) l))
            (log_is seats to w.seat (seat_of shared d ws seats all to w there.1)) in
            omega (arith, sent, taken, many, log))
        | inr high ↦ (let none = (cutter.others to high).count in omega (arith, none))
      ]

  all_fetched : AllFetched (logs_of seats)
  all_fetched from to =
      elim (cases_lt from (length seats)) [
        | inl low ↦
            (let there = item-at seats from low in
            ⊎_elim (λ mine. (let log = ap (λ l. length (posted (Mail from to) l)) (log_is seats from there.0 there.1) in
            let same = ap (λ (x : PoolSeat). length (posted (Mail from to) (map note_of (notes_of x)))) mine.2 in
            let none = ap (λ ps. length ps) ((all.stand from mine.0 mine.1).stands.taken.unposted from to) in
            omega (arith, log, same, none)))
            (λ last. (let log = ap (λ l. length (posted (Mail from to) l)) (log_is seats from there.0 there.1) in
            let same = ap (λ (x : PoolSeat). length (posted (Mail from to) (map note_of (notes_of x)))) last.1 in
            let mail = subst (λ (n : ℕ). length (posted (Mail n to) (map note_of (notes_of d.seat)))
            ≤ length (fetched (Mail n to) (of_lane (logs_of seats) to))) (sym last.0) (from_cutter to) in
            omega (arith, log, same, mail)))
            (either_seat shared d ws seats all from there.0 there.1))
        | inr beyond ↦
            (let none = ap (λ l. length (posted (Mail from to) l)) (no_log seats from beyond) in
            omega (arith, none))
      ]

  pub all_spent : AreSpent seats
  all_spent = record { counts = counts; fetched = all_fetched }
