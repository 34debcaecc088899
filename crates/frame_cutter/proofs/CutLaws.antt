-- A cutter that cuts its block: where it stands, and what comes once the block is cut.
use Rattle.std.proofs.Common.{◌≡◌, ℕ, suc, ◌+◌, ◌-◌, ◌*◌, ◌≤◌, Bool, true, false, List, [], ◌∷◌, ◌++◌, length, map, take, refl, ap, subst, sym, ◌∙◌, arith, Option, Some, None}
use Rattle.std.specs.Global.{Vec}
use Rattle.std.proofs.lemmas.List.{drop_all, length-append}
use Rattle.std.proofs.Math.Seq.{take-length}
use Rattle.pool_law.specs.declared.id.RootId.{RootId}
use Rattle.pool_law.specs.declared.id.ViewData.{ViewData}
use Rattle.pool_table.specs.Counts.{HasCount}
use Rattle.seat_work.specs.Changes.{once_less}
use Rattle.seat_work.specs.Hands.{empty_hand}
use Rattle.seat_work.specs.Works.{IsLater, Proceeds}
use Rattle.shared_pool.specs.declared.seat.PoolSeat.{PoolSeat}
use Rattle.shared_pool.specs.SeatViews.{view_of}
use Rattle.frame_core.specs.declared.frame.FrameNo.{FrameNo}
use Rattle.frame_core.specs.Frames.{failure_of, frames_of, refusal}
use Rattle.frame_core.proofs.RefusalLaws.{refused-stays}
use Rattle.frame_hash.specs.declared.shared.Shared.{Shared}
use Rattle.frame_hash.specs.Told.{joined}
use Rattle.frame_hash.specs.declared.turns.TheConstants.{RELEASE_TURNS}
use Rattle.frame_slices.specs.declared.slicer.Found.{Found}
use Rattle.frame_slices.specs.Slices.{HasCut}
use Rattle.frame_cutter.specs.declared.cutter.Cutter.{Cutter}
use Rattle.frame_cutter.specs.declared.stage.Stage.{Stage}
use Rattle.frame_cutter.specs.declared.stage.Stage.TheVariants.{Filling, Cutting, LettingGo}
use Rattle.frame_cutter.specs.declared.stage.Verdict.{Verdict}
use Rattle.frame_cutter.specs.Finds.{GoThrough}
use Rattle.frame_cutter.specs.Sends.{AreSlices}
use Rattle.frame_cutter.specs.Stages.{ends_at, gone_of, roots_at}
use Rattle.frame_cutter.specs.Standing.{CountsJust, CutterStands, HasVerdict, IsUnderway, verdict_of}
use Rattle.frame_cutter.specs.Stops.{AreBlocks}
use Rattle.frame_cutter.proofs.CountLaws.{counts_there, less_first}
use Rattle.frame_cutter.proofs.CutterLaws.{ended_so}
use Rattle.frame_cutter.proofs.MovedLaws.{KeepsTold, moved, moved_to}
use Rattle.frame_cutter.proofs.SeatLaws.{HasGone, gone_none, gone_quiet, slices_then}

-- bytes that meet no refusal met none before
sound-before : (before more : List ℕ) → refusal (failure_of (before ++ more)) ≡ None
    → refusal (failure_of before) ≡ None
sound-before before more sound = by-what (refusal (failure_of before)) refl
  where
    by-what : (met : Option FrameNo) → refusal (failure_of before) ≡ met → refusal (failure_of before) ≡ None
    by-what None e = e
    by-what (Some why) e = absurd (let stays = (refused-stays before more why e).refusal in cc)

-- one block more
one-more : (block : ℕ) (before part : List ℕ) → AreBlocks block before → length part ≡ block
    → AreBlocks block (before ++ part)
one-more block before part are size =
    let e : suc are.0 * block ≡ are.0 * block + block = omega arith in
    let a = length-append before part in let b = are.1 in (suc are.0, omega (arith, a, b, e, size))

-- ---- Where it stands.

module _ (shared : Shared) (d : Cutter) (read : List ℕ) (st : CutterStands shared d read) (root : RootId) (used : ℕ)
    (cutting : d.stage ≡ Cutting root used) where
  pub cutting_at : IsUnderway (Cutting root used) d read st.handed st.pieces
  cutting_at = subst (λ (s : Stage). IsUnderway s d read st.handed st.pieces) cutting st.underway

  pub counts_here : CountsJust (root ∷ map (λ v. v.root) d.slices.items) (view_of d.seat)
  counts_here =
      subst (λ (s : Stage). CountsJust (roots_at s d.slices.items) (view_of d.seat)) cutting st.counts

  pub counts_root : HasCount root (view_of d.seat)
  counts_root = counts_there (view_of d.seat) root [] (map (λ v. v.root) d.slices.items) counts_here

  pub keeps_told : (stage : Stage) → gone_of stage ≡ 0 → ((worker : ℕ) → ends_at stage worker ≡ [])
      → KeepsTold d.workers d.stage stage
  keeps_told stage gone ends = record {
    before = ap gone_of cutting;
    behind = gone;
    ends = λ worker below. ap (λ (s : Stage). ends_at s worker) cutting ∙ sym (ends worker);
  }

  -- ---- All finds are used, and its root is let go.

  module _ (all : length d.finds.items ≤ used) (seat : PoolSeat) (last : Bool)
      (later : IsLater shared.pool.now d.seat seat)
      (let_go : Proceeds shared.pool.now empty_hand RELEASE_TURNS 0 (once_less root last) d.seat seat)
      (enough : RELEASE_TURNS ≤ d.turns) where
    went : HasGone shared.pool.now d.workers (d.turns - RELEASE_TURNS) d.moves (map (λ v. v.root) d.slices.items) d.seat
        seat
    went =
        gone_quiet shared.pool.now d.workers d.turns d.moves RELEASE_TURNS 0 (d.turns - RELEASE_TURNS) d.moves
        (once_less root last) d.seat seat st.stands.works st.stands.lane let_go (omega (arith, enough)) (omega arith)
        (root ∷ map (λ v. v.root) d.slices.items) (map (λ v. v.root) d.slices.items)
        (less_first root (map (λ v. v.root) d.slices.items) last) counts_here st.fresh later

    still : AreSlices (view_of seat).own.notes (Some d.workers) d.slices.items st.pieces
    still =
        slices_then shared.pool.now d.workers (d.turns - RELEASE_TURNS) d.moves (map (λ v. v.root) d.slices.items)
        d.seat
        seat went d.slices.items st.pieces st.slices

    -- it was gone through up to its end, where the slicer is
    rest : (cutting_at.2.1.0.place ≡ length cutting_at.1)
        × HasCut d.slicer (cutting_at.0 ++ take cutting_at.2.1.0.place cutting_at.1) (joined st.pieces)
    rest =
        let at = cutting_at in
        let place = at.2.1.0.place in
        subst (λ (fs : List Found). GoThrough fs at.1 place (at.0 ++ take place at.1) (joined st.pieces) d.slicer)
        (drop_all used d.finds.items all) at.2.1.0.rest

    read-is : cutting_at.0 ++ take cutting_at.2.1.0.place cutting_at.1 ≡ read
    read-is =
        let at = cutting_at in
        ap (λ n. at.0 ++ take n at.1) rest.0 ∙ ap (λ bs. at.0 ++ bs) (take-length at.1) ∙ sym at.2.0.read_is

    cut-is : HasCut d.slicer read (joined st.pieces)
    cut-is = subst (λ (bs : List ℕ). HasCut d.slicer bs (joined st.pieces)) read-is rest.1

    frames-are : frames_of read ≡ map joined st.handed
    frames-are = ap frames_of (sym read-is) ∙ cutting_at.2.1.1.frames

    -- the block isn't the last
    pub leaves : d.last ≡ false
        → CutterStands shared
        (moved_to d seat (d.turns - RELEASE_TURNS) d.moves d.finds d.last d.slicer d.slices Filling d.verdict) read
    leaves more =
        let at = cutting_at in
        let inside = at.2.0 in
        moved shared d read st seat (d.turns - RELEASE_TURNS) d.moves d.finds d.last d.slicer d.slices Filling d.verdict
        st.pieces went (keeps_told Filling refl (λ worker. refl)) read still (omega arith) (
          more,
          record { frames = frames-are; healthy = at.2.1.1.healthy },
          cut-is,
          subst (AreBlocks d.block) (sym inside.read_is)
              (one-more d.block at.0 at.1 inside.blocks (inside.full more)),
        )

    -- the block is the last
    pub leaves_last : (verdict : Verdict) → d.last ≡ true
        → ((bytes own : List ℕ) → HasCut d.slicer bytes own → verdict ≡ verdict_of (failure_of bytes))
        → CutterStands shared
        (moved_to d seat (d.turns - RELEASE_TURNS) d.moves d.finds d.last d.slicer d.slices LettingGo verdict) read
    leaves_last verdict end told =
        let at = cutting_at in
        let inside = at.2.0 in
        let e : Cutter =
        moved_to d seat (d.turns - RELEASE_TURNS) d.moves d.finds d.last d.slicer d.slices LettingGo verdict in
        moved shared d read st seat (d.turns - RELEASE_TURNS) d.moves d.finds d.last d.slicer d.slices LettingGo verdict
        st.pieces went (keeps_told LettingGo refl (λ worker. refl)) read still (omega arith)
        (subst (λ v. HasVerdict v e read st.handed) (sym (told read (joined st.pieces) cut-is))
        (ended_so e read read st.handed end refl cut-is.sound frames-are
        (record {
          before = at.0;
          part = at.1;
          bytes_are = inside.read_is;
          blocks = inside.blocks;
          few = inside.few;
          sound =
              sound-before at.0 at.1 (ap (λ bs. refusal (failure_of bs)) (sym inside.read_is) ∙ cut-is.sound);
        })
        (failure_of read) refl))

  -- there is room for one slice more
  pub reserved : (slices : Vec ViewData) → slices.items ≡ d.slices.items
      → CutterStands shared
      (moved_to d d.seat d.turns d.moves d.finds d.last d.slicer slices d.stage d.verdict) read
  reserved slices items =
      let at = cutting_at in
      let inside = at.2.0 in
      let between = at.2.1.1 in
      let many = ap (λ xs. length xs) items in
      moved shared d read st d.seat d.turns d.moves d.finds d.last d.slicer slices d.stage d.verdict st.pieces
      (gone_none shared.pool.now d.workers d.turns d.moves (roots_at d.stage slices.items) d.seat st.stands.works
      st.stands.lane st.fresh
      (subst (λ (xs : List ViewData). CountsJust (roots_at d.stage xs) (view_of d.seat)) (sym items) st.counts))
      (record { before = ap gone_of cutting; behind = ap gone_of cutting; ends = λ worker below. refl }) read
      (subst (λ (xs : List ViewData). AreSlices (view_of d.seat).own.notes (Some d.workers) xs st.pieces) (sym items)
      st.slices)
      (omega (arith, many))
      (subst (λ (s : Stage). IsUnderway s
      (moved_to d d.seat d.turns d.moves d.finds d.last d.slicer slices d.stage d.verdict) read st.handed st.pieces)
      (sym cutting) (
        at.0,
        at.1,
        (
          record {
            read_is = inside.read_is;
            blocks = inside.blocks;
            few = inside.few;
            full = inside.full;
            capacity = inside.capacity;
            rest = inside.rest;
            written = inside.written;
          },
          (at.2.1.0, record { frames = between.frames; healthy = between.healthy }),
        ),
      ))
