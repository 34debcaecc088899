-- A block comes into a new root, or none is to be had.
use Rattle.std.proofs.Common.{◌≡◌, ℕ, ◌+◌, ◌-◌, ◌*◌, ◌≤◌, Bool, false, List, [], ◌∷◌, ◌++◌, length, map, take, refl, sym, ap, subst, ◌∙◌, arith, Option, Some, None, append_assoc, append-nil}
use Rattle.std.specs.Prelude.{slice_get}
use Rattle.std.specs.Global.{Vec}
use Rattle.pool_law.specs.declared.id.RootId.{RootId}
use Rattle.pool_law.specs.declared.note.Did.{Did}
use Rattle.pool_law.specs.declared.note.Object.{Object}
use Rattle.pool_law.specs.Naming.{noted_by}
use Rattle.pool_law.proofs.ListLemmas.{get-further}
use Rattle.pool_table.specs.declared.views.Entry.{Entry}
use Rattle.pool_table.specs.declared.views.Entry.TheVariants.{At}
use Rattle.seat_work.specs.Answers.{refused}
use Rattle.seat_work.specs.Changes.{no_change, once_less, once_more}
use Rattle.seat_work.specs.Hands.{empty_hand}
use Rattle.seat_work.specs.Works.{HasBorn, IsLater, Proceeds, Works}
use Rattle.seat_work.specs.declared.allocation.AllocNo.{AllocNo}
use Rattle.seat_work.proofs.Counting.{times-cons}
use Rattle.shared_pool.specs.declared.seat.PoolSeat.{PoolSeat}
use Rattle.shared_pool.specs.RootNotes.{access}
use Rattle.shared_pool.specs.Seats.{IsNoted}
use Rattle.shared_pool.specs.SeatViews.{view_of}
use Rattle.frame_core.specs.declared.frame.FrameNo.{FrameNo}
use Rattle.frame_core.specs.declared.frame.FrameNo.TheVariants as nos
use Rattle.frame_core.specs.Frames.{failure_of, refusal}
use Rattle.frame_core.proofs.CountLaws.{failure-from_refusal}
use Rattle.frame_hash.specs.declared.shared.Shared.{Shared}
use Rattle.frame_hash.specs.declared.turns.TheConstants.{RELEASE_TURNS}
use Rattle.frame_hash.specs.Told.{joined}
use Rattle.frame_hash.proofs.QuietLaws.{post_nothing_on, quiet_posts}
use Rattle.frame_slices.specs.declared.slicer.Found.{Found}
use Rattle.frame_slices.specs.declared.slicer.Slicer.{Slicer}
use Rattle.frame_cutter.specs.declared.cutter.Cutter.{Cutter}
use Rattle.frame_cutter.specs.declared.filling.TheConstants.{FILL_TURNS}
use Rattle.frame_cutter.specs.declared.stage.Stage.{Stage}
use Rattle.frame_cutter.specs.declared.stage.Stage.TheVariants.{Filling, Cutting, LettingGo}
use Rattle.frame_cutter.specs.declared.stage.Verdict.{Verdict}
use Rattle.frame_cutter.specs.declared.stage.Verdict.TheVariants.{Refused}
use Rattle.frame_cutter.specs.Finds.{GoThrough}
use Rattle.frame_cutter.specs.Sends.{WriteFresh, Writes}
use Rattle.frame_cutter.specs.Stages.{roots_at}
use Rattle.frame_cutter.specs.Standing.{CountsJust, CutterStands, HasVerdict, IsAt, IsBetween, IsInRoot, IsMet, IsUnderway}
use Rattle.frame_cutter.proofs.CountLaws.{less_first}
use Rattle.frame_cutter.proofs.CutterLaws.{IsPlain, filling-plain, keeps_told, letting_go-plain}
use Rattle.frame_cutter.proofs.FreshLaws.{fresh_written, quiet_none}
use Rattle.frame_cutter.proofs.MovedLaws.{KeepsTold, moved, moved_to}
use Rattle.frame_cutter.proofs.NoteLaws.{stays_posts}
use Rattle.frame_cutter.proofs.SeatLaws.{HasGone, counts_then, gone_none, gone_on, gone_quiet, sent_less, slices_then, works_then}

-- ---- Refusals.

-- and no end within a frame
not-inside : (failure : Option FrameNo) (number : ℕ) → refusal failure ≡ Some (nos.Inside number) → ⊥
not-inside None number e = cc e
not-inside (Some (nos.Length other)) number e = cc e
not-inside (Some nos.Frames) number e = cc e
not-inside (Some nos.Stream) number e = cc e
not-inside (Some (nos.Inside other)) number e = cc e

met-by : (failure : Option FrameNo) (why : FrameNo) (d : Cutter) → refusal failure ≡ Some why → IsMet why d
met-by failure (nos.Inside number) d e = absurd (not-inside failure number e)
met-by failure (nos.Length number) d e = tt
met-by failure nos.Frames d e = tt
met-by failure nos.Stream d e = tt

-- ---- A cutter that is to read its next block.

module _ (shared : Shared) (d : Cutter) (read : List ℕ) (st : CutterStands shared d read)
    (filling : d.stage ≡ Filling) where
  -- the turns that are left behind it
  abbrev left : ℕ
  left = d.turns - FILL_TURNS

  -- where it stands in the stream
  pub reading : IsUnderway Filling d read st.handed st.pieces
  reading = subst (λ s. IsUnderway s d read st.handed st.pieces) filling st.underway

  counts-before : CountsJust (roots_at Filling d.slices.items) (view_of d.seat)
  counts-before = subst (λ s. CountsJust (roots_at s d.slices.items) (view_of d.seat)) filling st.counts

  tells-none : (stage : Stage) → IsPlain stage → KeepsTold d.workers d.stage stage
  tells-none stage plain = subst (λ s. KeepsTold d.workers s stage) (sym filling)
      (keeps_told d.workers Filling stage filling-plain plain)

  cuts-told : (root : RootId) → KeepsTold d.workers d.stage (Cutting root 0)
  cuts-told root = subst (λ s. KeepsTold d.workers s (Cutting root 0)) (sym filling)
      (record { before = refl; behind = refl; ends = λ worker below. refl })

  -- another list of finds, none of which counts yet
  pub with_finds : (finds : Vec Found) → CutterStands shared (record d { finds = finds }) read
  with_finds finds =
      subst (λ s. CutterStands shared
      (moved_to d d.seat d.turns d.moves finds d.last d.slicer d.slices s d.verdict) read) (sym filling)
      (let b = reading.1 in
      moved shared d read st d.seat d.turns d.moves finds d.last d.slicer d.slices Filling d.verdict st.pieces
      (gone_none shared.pool.now d.workers d.turns d.moves (roots_at Filling d.slices.items) d.seat st.stands.works
      st.stands.lane st.fresh counts-before)
      (tells-none Filling filling-plain) read st.slices (omega arith)
      (reading.0, record { frames = b.frames; healthy = b.healthy }, reading.2, reading.3))

  module _ (enough : FILL_TURNS + RELEASE_TURNS ≤ d.turns) (finds : Vec Found) (mid : PoolSeat) where
    -- no root was to be had
    pub waits : (why : AllocNo) → IsLater shared.pool.now d.seat mid
        → Proceeds shared.pool.now empty_hand 6 0 (refused why) d.seat mid
        → CutterStands shared (moved_to d mid left d.moves finds d.last d.slicer d.slices d.stage d.verdict) read
    waits why later proceeds =
        subst (λ s. CutterStands shared
        (moved_to d mid left d.moves finds d.last d.slicer d.slices s d.verdict) read) (sym filling)
        (let b = reading.1 in
        let went =
        gone_quiet shared.pool.now d.workers d.turns d.moves 6 0 left d.moves (refused why) d.seat mid
        st.stands.works st.stands.lane proceeds (omega (arith, enough)) (omega arith)
        (roots_at Filling d.slices.items) (roots_at Filling d.slices.items) (λ root. refl) counts-before st.fresh
        later in
        moved shared d read st mid left d.moves finds d.last d.slicer d.slices Filling d.verdict st.pieces
        went (tells-none Filling filling-plain) read
        (slices_then shared.pool.now d.workers left d.moves (roots_at Filling d.slices.items) d.seat mid went
        d.slices.items st.pieces st.slices)
        (omega arith)
        (reading.0, record { frames = b.frames; healthy = b.healthy }, reading.2, reading.3))

    -- ---- The block is in a new root.

    module _ (root : RootId) (new : PoolSeat) (number : ℕ) (block : List ℕ)
        (allocates : Proceeds shared.pool.now empty_hand 6 0 (once_more root) d.seat mid)
        (bears : HasBorn shared.pool.now root d.seat mid)
        (sets : Proceeds shared.pool.now empty_hand 1 0 no_change mid new)
        (noted : IsNoted shared.pool.now mid new (Object.Root root.place) number (access root (Did.Set 0 block)))
        (slicer : Slicer) where
      abbrev roots : List RootId
      roots = roots_at (Cutting root 0) d.slices.items

      works-mid : Works shared.pool.now empty_hand (d.turns - 6) d.moves mid
      works-mid =
          works_then shared.pool.now d.workers d.turns d.moves 6 0 (d.turns - 6) d.moves (once_more root) d.seat mid
          st.stands.works st.stands.lane allocates (omega (arith, enough)) (omega arith)

      lane-mid : (view_of mid).own.number ≡ Some d.workers
      lane-mid = allocates.goes.number ∙ st.stands.lane

      abbrev note : Entry
      note = At (Object.Root root.place) number (noted_by (view_of mid).own.number (access root (Did.Set 0 block)))

      notes-new : (view_of new).own.notes ≡ ((view_of d.seat).own.notes ++ bears.later.added) ++ note ∷ []
      notes-new =
          ap (λ m. m.0.own.notes) noted.seat ∙ ap (λ (es : List Entry). es ++ note ∷ []) bears.later.grown.notes

      went : HasGone shared.pool.now d.workers left d.moves roots d.seat new
      went = record {
        works =
            works_then shared.pool.now d.workers (d.turns - 6) d.moves 1 0 left d.moves no_change mid new
            works-mid lane-mid sets (omega (arith, enough)) (omega arith);
        lane = sets.goes.number ∙ lane-mid;
        added = bears.later.added ++ note ∷ [];
        notes = notes-new ∙ append_assoc (view_of d.seat).own.notes bears.later.added (note ∷ []);
        unposted =
            post_nothing_on bears.later.added (note ∷ []) (quiet_posts bears.later.added bears.later.quiet)
            (stays_posts (Object.Root root.place) number
            (noted_by (view_of mid).own.number (access root (Did.Set 0 block))) refl);
        sent = λ to.
            (let a =
            sent_less shared.pool.now d.workers d.turns d.moves 6 0 (d.turns - 6) d.moves (once_more root) d.seat mid
            st.stands.works st.stands.lane allocates (omega (arith, enough)) (omega arith) to in
            let b =
            sent_less shared.pool.now d.workers (d.turns - 6) d.moves 1 0 left d.moves no_change mid new
            works-mid lane-mid sets (omega (arith, enough)) (omega arith) to in
            omega (arith, a, b));
        fresh =
            subst WriteFresh (sym notes-new)
            (fresh_written (view_of d.seat).own.notes bears.later.added root (view_of mid).own.number number bears.at
            block st.fresh (quiet_none bears.later.added bears.later.quiet) bears.born);
        counts =
            counts_then shared.pool.now d.workers (d.turns - 6) d.moves 1 0 left d.moves no_change mid new
            works-mid lane-mid sets (omega (arith, enough)) (omega arith) roots roots (λ r. refl)
            (counts_then shared.pool.now d.workers d.turns d.moves 6 0 (d.turns - 6) d.moves (once_more root) d.seat mid
            st.stands.works st.stands.lane allocates (omega (arith, enough)) (omega arith)
            (roots_at Filling d.slices.items) roots
            (λ r. let a = times-cons r root (roots_at Filling d.slices.items) in let b = times-cons r root [] in
            omega (arith, a, b)) counts-before);
      }

      written : Writes (view_of new).own.notes (Some d.workers) root block
      written =
          subst (λ (es : List Entry). Writes es (Some d.workers) root block) (sym (ap (λ m. m.0.own.notes) noted.seat))
          (record {
            at = length (view_of mid).own.notes;
            number = number;
            stands =
                ap (slice_get ((view_of mid).own.notes ++ note ∷ []))
                (let e : length (view_of mid).own.notes ≡ length (view_of mid).own.notes + 0 = omega arith in e)
                ∙ get-further (view_of mid).own.notes (note ∷ []) 0
                ∙ ap (λ (lane : Option ℕ). Some (At (Object.Root root.place) number
                (noted_by lane (access root (Did.Set 0 block))))) lane-mid;
          })

      -- these bytes of the stream came, and were gone through
      module _ (bytes rest : List ℕ) (last : Bool) (block_is : block ≡ bytes ++ rest) (few : length bytes ≤ d.block)
          (full : last ≡ false → length bytes ≡ d.block) (whole : root.capacity ≡ d.block)
          (goes : GoThrough finds.items bytes 0 read (joined st.pieces) slicer) where
        abbrev placed_cutter : Cutter
        placed_cutter = moved_to d new left d.moves finds last slicer d.slices (Cutting root 0) d.verdict

        in-root : IsInRoot placed_cutter read bytes (read ++ bytes) root
        in-root = record {
          read_is = refl;
          blocks = reading.3;
          few = few;
          full = full;
          capacity = whole;
          rest = rest;
          written =
              subst (λ (bs : List ℕ). Writes (view_of new).own.notes (Some d.workers) root bs) block_is written;
        }

        abbrev at-front : IsAt finds.items slicer read bytes (joined st.pieces) 0
        at-front = record {
          place = 0;
          within = omega arith;
          many = omega arith;
          rest =
              subst (λ (bs : List ℕ). GoThrough finds.items bytes 0 bs (joined st.pieces) slicer)
              (sym (append-nil read)) goes;
        }

        between : IsBetween placed_cutter (read ++ take 0 bytes) st.handed st.pieces
        between =
            subst (λ (gone : List ℕ). IsBetween placed_cutter gone st.handed st.pieces) (sym (append-nil read))
            (let b = reading.1 in record { frames = b.frames; healthy = b.healthy })

        pub placed : CutterStands shared placed_cutter (read ++ bytes)
        placed =
            moved shared d read st new left d.moves finds last slicer d.slices (Cutting root 0) d.verdict
            st.pieces went (cuts-told root) (read ++ bytes)
            (slices_then shared.pool.now d.workers left d.moves roots d.seat new went d.slices.items st.pieces
            st.slices)
            (omega arith)
            (read, bytes, (in-root, (at-front, between)))

      -- ---- The root is let go at once, and the stream is read no further.

      module _ (end : PoolSeat) (once : Bool)
          (let_go : Proceeds shared.pool.now empty_hand RELEASE_TURNS 0 (once_less root once) new end)
          (later : IsLater shared.pool.now new end) (verdict : Verdict) where
        abbrev others : List RootId
        others = map (λ v. v.root) d.slices.items

        gone : HasGone shared.pool.now d.workers (left - RELEASE_TURNS) d.moves others d.seat end
        gone =
            gone_on shared.pool.now d.workers left d.moves (left - RELEASE_TURNS) d.moves roots others d.seat new end
            went
            (gone_quiet shared.pool.now d.workers left d.moves RELEASE_TURNS 0 (left - RELEASE_TURNS) d.moves
            (once_less root once) new end went.works went.lane let_go (omega (arith, enough)) (omega arith) roots others
            (less_first root others once) went.counts went.fresh later)

        abbrev pub stopped_cutter : Cutter
        stopped_cutter =
            moved_to d end (left - RELEASE_TURNS) d.moves finds d.last slicer d.slices LettingGo verdict

        pub stopped : (more : List ℕ) → HasVerdict verdict stopped_cutter more st.handed
            → CutterStands shared stopped_cutter more
        stopped more has =
            moved shared d read st end (left - RELEASE_TURNS) d.moves finds d.last slicer d.slices LettingGo verdict
            st.pieces gone (tells-none LettingGo letting_go-plain) more
            (slices_then shared.pool.now d.workers (left - RELEASE_TURNS) d.moves others d.seat end gone d.slices.items
            st.pieces st.slices)
            (omega arith) has

  -- a refusal is met in the block that came
  pub refuses : (e : Cutter) (bytes : List ℕ) (why : FrameNo) → e.block ≡ d.block → length bytes ≤ d.block
      → refusal (failure_of (read ++ bytes)) ≡ Some why → HasVerdict (Refused why) e (read ++ bytes) st.handed
  refuses e bytes why same few met = (
    met-by (failure_of (read ++ bytes)) why e met,
    failure-from_refusal (failure_of (read ++ bytes)) why met,
    record {
      before = read;
      part = bytes;
      bytes_are = refl;
      blocks = (reading.3.0, reading.3.1 ∙ ap (λ n. reading.3.0 * n) (sym same));
      few = omega (arith, few, same);
      sound = reading.2.sound;
    },
  )
