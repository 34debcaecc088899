-- What all workers and the cutter left: their seats in order, and what was told of all frames.
use Rattle.std.proofs.Common.{◌≡◌, ℕ, zero, suc, ◌+◌, ◌<◌, List, [], ◌∷◌, ◌++◌, length, map, ap, sym, ◌∙◌, subst, arith, All, Some, inl, inr, ⊎_elim, get_or, length-append}
use Rattle.std.specs.Prelude.{◌/◌, ◌%◌, ◌⊎◌, HoldsAt, Option, slice_get}
use Rattle.std.proofs.lemmas.List.{length-map}
use Rattle.std.proofs.lemmas.Option.{get_or_from_slice_get, slice_get-get_or, slice_get_within}
use Rattle.std.proofs.Math.Nat.{mod-lt}
use Rattle.pool_law.specs.declared.run.Shape.{Shape}
use Rattle.pool_law.proofs.ListLemmas.{get-behind, get-front, item-at, get-map, map-get, get-split}
use Rattle.shared_pool.specs.declared.seat.PoolSeat.{PoolSeat}
use Rattle.shared_pool.specs.Closing.{AreWhole}
use Rattle.shared_pool.specs.Seated.{AreDone, IsDone, parts_in}
use Rattle.shared_pool.specs.Seats.{IsPoolSeat}
use Rattle.frame_core.specs.Frames.{frames_of}
use Rattle.frame_hash.specs.declared.hashes.HashOf.{HashOf}
use Rattle.frame_hash.specs.declared.shared.Shared.{Shared}
use Rattle.frame_hash.specs.declared.worker.Work.TheVariants.{Done}
use Rattle.frame_hash.specs.declared.worker.Worker.{Worker}
use Rattle.frame_hash.specs.Hashes.{hash_of}
use Rattle.frame_hash.specs.Takes.{WriteNothing}
use Rattle.frame_hash.specs.Told.{joined, share_of, to_tell, told_of}
use Rattle.frame_cutter.specs.declared.cutter.Cutter.{Cutter}
use Rattle.frame_cutter.specs.declared.stage.Stage.TheVariants.{Over}
use Rattle.frame_cutter.specs.declared.stage.Verdict.TheVariants.{Whole}
use Rattle.frame_cutter.specs.Standing.{CutterStands, HasVerdict, IsUnderway}
use Rattle.frame_cutter.proofs.FewFrames.{few_frames}
use Rattle.frame_cut.specs.declared.closing.StreamEnd.{StreamEnd}
use Rattle.frame_cut.specs.Tellings.{HasGot, Tells}
use Rattle.frame_cut.proofs.Running.{cutter_done, worker_done}
use Rattle.frame_cut.proofs.SeatLogs.{notes_of}
use Rattle.frame_cut.proofs.ShareLaws.{told_at}
use Rattle.frame_cut.proofs.WorkerEnds.{StandsThere, all_tell}

-- the seats of these workers and of the cutter, each worker at its place, and what it got a front of what
-- was sent to it
pub record AreTogether (shared : Shared) (d : Cutter) (ws : List Worker) (seats : List PoolSeat) : Type 0 where
  pub seats_are : seats ≡ map (λ w. w.seat) ws ++ d.seat ∷ []
  pub many : length ws ≡ d.workers
  pub stand : (k : ℕ) (w : Worker) → slice_get ws k ≡ Some w → StandsThere shared d.workers k w
  pub joins : (k : ℕ) (w : Worker) → slice_get ws k ≡ Some w → HasGot d.ends.items k w.jobs

module _ (shared : Shared) (d : Cutter) (ws : List Worker) (seats : List PoolSeat)
    (all : AreTogether shared d ws seats) where
  front : length (map (λ (w : Worker). w.seat) ws) ≡ d.workers
  front = length-map ws (λ (w : Worker). w.seat) ∙ all.many

  -- a worker's seat, and the cutter's
  pub seat_of : (k : ℕ) (w : Worker) → slice_get ws k ≡ Some w → slice_get seats k ≡ Some w.seat
  seat_of k w e =
      ap (λ ss. slice_get ss k) all.seats_are
      ∙ get-front (map (λ (w : Worker). w.seat) ws) (d.seat ∷ []) k w.seat (get-map (λ (w : Worker). w.seat) ws k w e)

  pub cutter_seat : slice_get seats d.workers ≡ Some d.seat
  cutter_seat =
      ap (λ ss. slice_get ss d.workers) all.seats_are
      ∙ ap (slice_get (map (λ (w : Worker). w.seat) ws ++ d.seat ∷ [])) (sym front)
      ∙ get-behind (map (λ (w : Worker). w.seat) ws) d.seat []

  -- each seat is one of these
  pub either_seat : (lane : ℕ) (s : PoolSeat) → slice_get seats lane ≡ Some s
      → ((w : Worker) × (slice_get ws lane ≡ Some w) × (w.seat ≡ s)) ⊎ ((lane ≡ d.workers) × (d.seat ≡ s))
  either_seat lane s e =
      ⊎_elim (λ mine. inl (map-get (λ (w : Worker). w.seat) ws lane s mine))
      (λ last. inr (last_seat last.0 last.1 last.2))
      (get-split (map (λ (w : Worker). w.seat) ws) (d.seat ∷ []) lane s
      (ap (λ ss. slice_get ss lane) (sym all.seats_are) ∙ e))
    where
      last_seat : (m : ℕ) → lane ≡ length (map (λ (w : Worker). w.seat) ws) + m → slice_get (d.seat ∷ []) m ≡ Some s
          → (lane ≡ d.workers) × (d.seat ≡ s)
      last_seat zero at is = (omega (arith, at, front), cc is)
      last_seat (suc m) at is = absurd (cc is)

  -- no seat but the cutter's wrote
  pub others_write : (lane : ℕ) (s : PoolSeat) → (lane ≡ d.workers → ⊥) → slice_get seats lane ≡ Some s
      → WriteNothing (notes_of s)
  others_write lane s ne e =
      ⊎_elim (λ mine. subst (λ (x : PoolSeat). WriteNothing (notes_of x)) mine.2
      (all.stand lane mine.0 mine.1).stands.taken.unwritten)
      (λ last. absurd (ne last.0)) (either_seat lane s e)

  -- all of them have nothing in hand
  pub all_done : (read : List ℕ) → CutterStands shared d read → AreDone shared.pool.now seats
  all_done read cutter = record {
    many =
        (let a = ap (λ (ss : List PoolSeat). length ss) all.seats_are in
        let b = length-append (map (λ (w : Worker). w.seat) ws) (d.seat ∷ []) in let c = front in
        let e = cutter.stands.lanes in omega (arith, a, b, c, e));
    each = λ lane low e.
        (let s = get_or seats lane e in
        ⊎_elim (λ mine. subst (IsDone shared.pool.now lane) mine.2
        (worker_done shared d.workers lane mine.0 (all.stand lane mine.0 mine.1)))
        (λ last. subst (λ (x : ℕ × PoolSeat). IsDone shared.pool.now x.0 x.1) (λ i. (sym last.0 i, last.1 i))
        (cutter_done shared d read cutter))
        (either_seat lane s (slice_get-get_or seats lane e (within lane low))));
  }
    where
      within : (lane : ℕ) → lane < shared.pool.now.table.layout.shape.lanes → lane < length seats
      within lane low =
          let a = ap (λ (ss : List PoolSeat). length ss) all.seats_are in
          let b = length-append (map (λ (w : Worker). w.seat) ws) (d.seat ∷ []) in let c = front in
          let e = cutter.stands.lanes in omega (arith, a, b, c, e, low)

  pub all_seats : (read : List ℕ) → CutterStands shared d read → All (IsPoolSeat shared.pool.now) seats
  all_seats read cutter lane e low =
      let s = get_or seats lane e in
      ⊎_elim (λ mine. subst (IsPoolSeat shared.pool.now) mine.2 (all.stand lane mine.0 mine.1).stands.works.seat)
      (λ last. subst (IsPoolSeat shared.pool.now) last.1 cutter.stands.works.seat)
      (either_seat lane s (slice_get-get_or seats lane e low))

  module _ (read : List ℕ) (cutter : CutterStands shared d read) (over : d.stage ≡ Over)
      (done : All (λ (w : Worker). w.work ≡ Done) ws) where
    pub done_there : (k : ℕ) (w : Worker) → slice_get ws k ≡ Some w → w.work ≡ Done
    done_there k w e =
        subst (λ (x : Worker). x.work ≡ Done) (get_or_from_slice_get ws k w w e) (done k w (slice_get_within ws k w e))

    module _ (shape : Shape) (whole : AreWhole shape (parts_in seats)) where
      -- what each worker told
      pub each_told : (k : ℕ) (w : Worker) → slice_get ws k ≡ Some w
          → w.hashes.items ≡ to_tell (share_of d.workers k 0 cutter.handed)
      each_told k w e =
          let within = slice_get_within ws k w e in
          all_tell shared d read cutter over k w (omega (arith, within, all.many)) (all.stand k w e) (done_there k w e)
          (all.joins k w e) shape seats whole cutter_seat others_write (seat_of k w e)

      module _ (told : StreamEnd) (hashes : told.hashes.items ≡ map (λ w. w.hashes) ws)
          (frames : told.frames ≡ d.frames)
          (sound : d.verdict ≡ Whole) where
        verdict : HasVerdict Whole d read cutter.handed
        verdict =
            subst (λ v. HasVerdict v d read cutter.handed) sound
            (subst (λ s. IsUnderway s d read cutter.handed cutter.pieces) over cutter.underway).0

        many : length told.hashes.items ≡ d.workers
        many = ap (λ hs. length hs) hashes ∙ length-map ws (λ (w : Worker). w.hashes) ∙ all.many

        -- what was told of frame k, of so many workers
        told_of_frame : (k : ℕ) (frame : List ℕ) → slice_get (frames_of read) k ≡ Some frame
            → HoldsAt (λ list. slice_get list.items (k / d.workers)
            ≡ Some (record { number = k; hash = hash_of frame })) told.hashes.items (k % d.workers)
        told_of_frame k frame e =
            let at = map-get joined cutter.handed k frame (ap (λ fs. slice_get fs k) (sym verdict.2) ∙ e) in
            let low : k % d.workers < d.workers = mod-lt k cutter.stands.some in
            let there = item-at ws (k % d.workers) (omega (arith, low, all.many)) in
            let w = there.0 in
            let items = each_told (k % d.workers) w there.1 in
            let found : slice_get told.hashes.items (k % d.workers) ≡ Some w.hashes =
            ap (λ hs. slice_get hs (k % d.workers)) hashes
            ∙ get-map (λ (x : Worker). x.hashes) ws (k % d.workers) w there.1 in
            let said : slice_get w.hashes.items (k / d.workers) ≡ Some (told_of k at.0) =
            ap (λ hs. slice_get hs (k / d.workers)) items
            ∙ told_at d.workers cutter.stands.some cutter.handed k at.0 at.1 in
            let frame_is : ◌≡◌ {A = Option HashOf} (Some (told_of k at.0))
            (Some (record { number = k; hash = hash_of frame })) =
            ap (λ f. Some (record { number = k; hash = hash_of f })) at.2 in
            λ d'. ap (λ list. slice_get list.items (k / d.workers))
            (get_or_from_slice_get told.hashes.items (k % d.workers) w.hashes d' found)
            ∙ said ∙ frame_is

        pub tells_all : Tells told (frames_of read)
        tells_all = record {
          some = omega (arith, many, cutter.stands.some);
          many =
              (let a = cutter.frames in let b = ap (λ fs. length fs) verdict.2 in
              let c = length-map cutter.handed joined in omega (arith, frames, a, b, c));
          few = few_frames read;
          each = λ k frame e.
              subst (λ n. HoldsAt (λ list. slice_get list.items (k / n)
              ≡ Some (record { number = k; hash = hash_of frame })) told.hashes.items (k % n)) (sym many)
              (told_of_frame k frame e);
        }
