-- A cutter that takes what its slicer found: with one slice more, or none.
use Rattle.std.proofs.Common.{◌≡◌, ℕ, zero, suc, ◌+◌, ◌-◌, ◌<◌, ◌≤◌, Bool, true, false, List, [], ◌∷◌, ◌++◌, length, map, take, drop, slice_range, refl, ap, subst, sym, ◌∙◌, arith, Option, Some, ⊎_elim, append_assoc, append-nil, length-append}
use Rattle.std.specs.Prelude.{slice_get}
use Rattle.std.specs.Global.{Vec}
use Rattle.std.proofs.lemmas.List.{drop-append-le, length-drop, map-append, take-append-le}
use Rattle.std.proofs.lemmas.Option.{slice_get_within}
use Rattle.pool_arena.proofs.WalkLaws.{drop-step}
use Rattle.pool_law.specs.declared.id.RootId.{RootId}
use Rattle.pool_law.specs.declared.id.ViewData.{ViewData}
use Rattle.pool_law.specs.Roots.{bytes_at}
use Rattle.pool_law.proofs.ListLemmas.{get-split}
use Rattle.pool_table.specs.declared.views.Entry.{Entry}
use Rattle.seat_work.specs.Changes.{once_more}
use Rattle.seat_work.specs.Hands.{empty_hand}
use Rattle.seat_work.specs.Works.{IsLater, Proceeds}
use Rattle.shared_pool.specs.declared.seat.PoolSeat.{PoolSeat}
use Rattle.shared_pool.specs.SeatViews.{view_of}
use Rattle.frame_hash.specs.declared.shared.Shared.{Shared}
use Rattle.frame_hash.specs.Told.{joined}
use Rattle.frame_hash.proofs.ToldLaws.{joined-more}
use Rattle.frame_slices.specs.declared.slicer.Found.{Found}
use Rattle.frame_slices.specs.Slices.{Takes}
use Rattle.frame_cutter.specs.declared.cutter.Cutter.{Cutter}
use Rattle.frame_cutter.specs.declared.stage.Stage.TheVariants.{Cutting}
use Rattle.frame_cutter.specs.Finds.{GoThrough, IsFind, own_then, slice_at, stage_at}
use Rattle.frame_cutter.specs.Sends.{AreSlices, IsSlice}
use Rattle.frame_cutter.specs.Stages.{ends_at, gone_of, roots_at}
use Rattle.frame_cutter.specs.Standing.{CutterStands, IsAt, IsInRoot, IsUnderway}
use Rattle.frame_cutter.proofs.CountLaws.{more_last}
use Rattle.frame_cutter.proofs.CutLaws.{counts_here, cutting_at, keeps_told}
use Rattle.frame_cutter.proofs.GoLaws.{goes-on}
use Rattle.frame_cutter.proofs.MovedLaws.{moved, moved_to}
use Rattle.frame_cutter.proofs.SeatLaws.{ChangesTo, HasGone, gone_none, gone_quiet, slices_then, writes_then}

-- ---- What comes next has nothing in hand but the block and the slices.

pub roots_next : (root : RootId) (used : ℕ) (b : Bool) (slices : List ViewData)
    → roots_at (stage_at root used b) slices ≡ root ∷ map (λ v. v.root) slices
roots_next root used true slices = refl
roots_next root used false slices = refl

pub gone_next : (root : RootId) (used : ℕ) (b : Bool) → gone_of (stage_at root used b) ≡ 0
gone_next root used true = refl
gone_next root used false = refl

pub ends_next : (root : RootId) (used : ℕ) (b : Bool) (worker : ℕ) → ends_at (stage_at root used b) worker ≡ []
ends_next root used true worker = refl
ends_next root used false worker = refl

-- ---- One slice more.

module _ (es : List Entry) (lane : Option ℕ) (view : ViewData) (piece : List ℕ) where
  pub slices_more : (views : List ViewData) (pieces : List (List ℕ)) → AreSlices es lane views pieces
      → IsSlice es lane view piece → AreSlices es lane (views ++ view ∷ []) (pieces ++ piece ∷ [])
  slices_more views pieces are is = record {
    many =
        (let a = are.many in let b = length-append views (view ∷ []) in let c = length-append pieces (piece ∷ []) in
        omega (arith, a, b, c));
    each = λ k v p v_at p_at.
        ⊎_elim
        (λ here. ⊎_elim (λ there. are.each k v p here there)
        (λ no. absurd (let a = slice_get_within views k v here in let b = are.many in let c = no.1 in
        omega (arith, a, b, c)))
        (get-split pieces (piece ∷ []) k p p_at))
        (λ past. ⊎_elim
        (λ no. absurd (let a = slice_get_within pieces k p no in let b = are.many in let c = past.1 in
        omega (arith, a, b, c)))
        (λ there. last past.0 there.0 v p past.2 there.2)
        (get-split pieces (piece ∷ []) k p p_at))
        (get-split views (view ∷ []) k v v_at);
  }
    where
      last : (m n : ℕ) (v : ViewData) (p : List ℕ) → slice_get (view ∷ []) m ≡ Some v
          → slice_get (piece ∷ []) n ≡ Some p → IsSlice es lane v p
      last zero zero v p e f =
          let a : view ≡ v = cc e in let b : piece ≡ p = cc f in
          subst (λ (x : ViewData). IsSlice es lane x p) a (subst (λ (x : List ℕ). IsSlice es lane view x) b is)
      last zero (suc n) v p e f = absurd (cc f)
      last (suc m) n v p e f = absurd (cc e)

-- ---- The cutter behind a find.

-- the bytes of a block that lies at the front of a root
part-at : (block rest : List ℕ) (start end : ℕ) → start ≤ end → end ≤ length block
    → slice_range block start end ≡ bytes_at (block ++ rest) start (end - start)
part-at block rest start end le within =
    let long = length-drop start block in
    sym (ap (take (end - start)) (drop-append-le start block rest (omega (arith, le, within)))
    ∙ take-append-le (end - start) (drop start block) rest (omega (arith, long, le, within)))

module _ (shared : Shared) (d : Cutter) (root : RootId) (f : Found) (read : List ℕ) (st : CutterStands shared d read)
    (used : ℕ) (cutting : d.stage ≡ Cutting root used) (found : slice_get d.finds.items used ≡ Some f) where
  at : IsUnderway (Cutting root used) d read st.handed st.pieces
  at = cutting_at shared d read st root used cutting

  abbrev before : List ℕ
  before = at.0

  abbrev block : List ℕ
  block = at.1

  -- where it is in the block, before the find
  abbrev place : ℕ
  place = at.2.1.0.place

  abbrev part : List ℕ
  part = slice_range block f.start f.used

  next-is : drop used d.finds.items ≡ f ∷ drop (used + 1) d.finds.items
  next-is =
      let e : suc used ≡ used + 1 = omega arith in
      drop-step d.finds.items used f found ∙ ap (λ n. f ∷ drop n d.finds.items) e

  goes : GoThrough (f ∷ drop (used + 1) d.finds.items) block place (before ++ take place block) (joined st.pieces)
      d.slicer
  goes =
      subst (λ (fs : List Found). GoThrough fs block place (before ++ take place block) (joined st.pieces) d.slicer)
      next-is at.2.1.0.rest

  find : IsFind f block place (before ++ take place block) (joined st.pieces) goes.0
  find = goes.1.0

  -- it lies in a block, which is small
  pub small : (f.start ≤ f.used) × (f.used ≤ 65536)
  small =
      let a = find.within in let b = at.2.0.few in let c = st.block.few in (find.end, omega (arith, a, b, c))

  seam : (before ++ take place block) ++ slice_range block place f.used ≡ before ++ take f.used block
  seam =
      let a = find.start in let b = find.end in
      append_assoc before (take place block) (slice_range block place f.used)
      ∙ ap (λ r. before ++ r) (goes-on place f.used block (omega (arith, a, b)))

  taken : Takes (before ++ take place block) (before ++ take f.used block) (joined st.pieces) part f.ended goes.0
  taken =
      subst (λ (after : List ℕ). Takes (before ++ take place block) after (joined st.pieces) part f.ended goes.0) seam
      find.takes

  onward : GoThrough (drop (used + 1) d.finds.items) block f.used (before ++ take f.used block)
      (own_then f.ended (joined st.pieces) part) d.slicer
  onward =
      subst (λ (bs : List ℕ). GoThrough (drop (used + 1) d.finds.items) block f.used bs
      (own_then f.ended (joined st.pieces) part) d.slicer) seam goes.1.1

  -- the place behind it
  abbrev behind : (own : List ℕ)
      → GoThrough (drop (used + 1) d.finds.items) block f.used (before ++ take f.used block) own d.slicer
      → IsAt d.finds.items d.slicer before block own (used + 1)
  behind own rest = record {
    place = f.used;
    within = find.within;
    many = (let a = slice_get_within d.finds.items used f found in omega (arith, a));
    rest = rest;
  }

  -- its seat and its slices by then, and the pieces that these are
  module _ (seat : PoolSeat) (moves : ℕ) (slices : Vec ViewData) (pieces : List (List ℕ))
      (joins : joined pieces ≡ joined st.pieces ++ part)
      (went : HasGone shared.pool.now d.workers d.turns moves (root ∷ map (λ v. v.root) slices.items) d.seat seat) where
    abbrev roots : List RootId
    roots = root ∷ map (λ v. v.root) slices.items

    abbrev e : Cutter
    e =
        moved_to d seat d.turns moves d.finds d.last d.slicer slices (stage_at root (used + 1) f.ended) d.verdict

    in-root : IsInRoot e before block read root
    in-root =
        let r = at.2.0 in
        record {
          read_is = r.read_is;
          blocks = r.blocks;
          few = r.few;
          full = r.full;
          capacity = r.capacity;
          rest = r.rest;
          written =
              writes_then shared.pool.now d.workers d.turns moves roots d.seat seat went root (block ++ r.rest)
              r.written;
        }

    next : (b : Bool)
        → Takes (before ++ take place block) (before ++ take f.used block) (joined st.pieces) part b goes.0
        → GoThrough (drop (used + 1) d.finds.items) block f.used (before ++ take f.used block)
        (own_then b (joined st.pieces) part) d.slicer
        → IsUnderway (stage_at root (used + 1) b) e read st.handed pieces
    next true t rest =
        let between = at.2.1.1 in (
          before,
          block,
          (
            in-root,
            (
              behind [] rest,
              omega arith,
              record {
                frames = t.0 ∙ (λ i. between.frames i ++ sym joins i ∷ []);
                healthy = between.healthy;
              },
            ),
          ),
        )
    next false t rest =
        let between = at.2.1.1 in (
          before,
          block,
          (
            in-root,
            (
              behind (joined pieces)
                  (subst (λ (own : List ℕ). GoThrough (drop (used + 1) d.finds.items) block f.used
                  (before ++ take f.used block) own d.slicer) (sym joins) rest),
              record { frames = t.0 ∙ between.frames; healthy = between.healthy },
            ),
          ),
        )

    takes_so : AreSlices (view_of seat).own.notes (Some d.workers) slices.items pieces
        → length slices.items + moves ≤ length d.slices.items + d.moves → CutterStands shared e read
    takes_so are few =
        let stage = stage_at root (used + 1) f.ended in
        moved shared d read st seat d.turns moves d.finds d.last d.slicer slices stage d.verdict pieces
        (subst (λ (rs : List RootId). HasGone shared.pool.now d.workers d.turns moves rs d.seat seat)
        (sym (roots_next root (used + 1) f.ended slices.items)) went)
        (keeps_told shared d read st root used cutting stage (gone_next root (used + 1) f.ended)
        (ends_next root (used + 1) f.ended))
        read are few (next f.ended taken onward)

  -- no byte is the frame's
  pub takes_none : f.start ≡ f.used → CutterStands shared (record d { stage = stage_at root (used + 1) f.ended }) read
  takes_none none =
      let empty : part ≡ [] = ap (λ n. take n (drop f.start block))
      (let e : f.used - f.start ≡ 0 = omega (arith, none) in e) in
      takes_so d.seat d.moves d.slices st.pieces
      (sym (append-nil (joined st.pieces)) ∙ ap (λ r. joined st.pieces ++ r) (sym empty))
      (gone_none shared.pool.now d.workers d.turns d.moves (root ∷ map (λ v. v.root) d.slices.items) d.seat
      st.stands.works st.stands.lane st.fresh (counts_here shared d read st root used cutting))
      st.slices (omega arith)

  -- some bytes are, and they are a slice
  module _ (seat : PoolSeat) (slices : Vec ViewData) (some : f.start < f.used) (left : 0 < d.moves)
      (items : slices.items ≡ d.slices.items ++ slice_at root f.start f.used ∷ [])
      (retained : Proceeds shared.pool.now empty_hand 0 1 (once_more root) d.seat seat)
      (later : IsLater shared.pool.now d.seat seat) where
    roots-are : root ∷ map (λ v. v.root) slices.items ≡ (root ∷ map (λ v. v.root) d.slices.items) ++ root ∷ []
    roots-are =
        ap (λ (xs : List ViewData). root ∷ map (λ v. v.root) xs) items
        ∙ ap (λ (rs : List RootId). root ∷ rs)
        (map-append (λ (v : ViewData). v.root) d.slices.items (slice_at root f.start f.used ∷ []))

    one-more : HasGone shared.pool.now d.workers d.turns (d.moves - 1) (root ∷ map (λ v. v.root) slices.items) d.seat
        seat
    one-more =
        gone_quiet shared.pool.now d.workers d.turns d.moves 0 1 d.turns (d.moves - 1) (once_more root) d.seat seat
        st.stands.works st.stands.lane retained (omega arith) (omega (arith, left))
        (root ∷ map (λ v. v.root) d.slices.items) (root ∷ map (λ v. v.root) slices.items)
        (subst (λ (rs : List RootId). ChangesTo (once_more root) (root ∷ map (λ v. v.root) d.slices.items) rs)
        (sym roots-are) (more_last root (root ∷ map (λ v. v.root) d.slices.items)))
        (counts_here shared d read st root used cutting) st.fresh later

    slice-is : IsSlice (view_of seat).own.notes (Some d.workers) (slice_at root f.start f.used) part
    slice-is =
        let r = at.2.0 in
        let a = find.within in let b = r.few in let c = st.block.few in let g = r.capacity in
        let long = length-append block r.rest in
        record {
          bytes = block ++ r.rest;
          written =
              writes_then shared.pool.now d.workers d.turns (d.moves - 1) (root ∷ map (λ v. v.root) slices.items) d.seat
              seat one-more root (block ++ r.rest) r.written;
          view_is = record { inside = omega (arith, some, a, b, c); reader = omega arith; writer = omega arith };
          some = omega (arith, some);
          inside = omega (arith, some, a, long);
          born_so = omega (arith, some, a, b, g);
          piece_is = part-at block r.rest f.start f.used (omega (arith, some)) a;
        }

    pub takes_one : CutterStands shared (record d {
      seat = seat;
      moves = d.moves - 1;
      slices = slices;
      stage = stage_at root (used + 1) f.ended;
    }) read
    takes_one =
        takes_so seat (d.moves - 1) slices (st.pieces ++ part ∷ []) (joined-more st.pieces part) one-more
        (subst (λ (xs : List ViewData).
        AreSlices (view_of seat).own.notes (Some d.workers) xs (st.pieces ++ part ∷ []))
        (sym items)
        (slices_more (view_of seat).own.notes (Some d.workers) (slice_at root f.start f.used) part d.slices.items
        st.pieces
        (slices_then shared.pool.now d.workers d.turns (d.moves - 1) (root ∷ map (λ v. v.root) slices.items) d.seat seat
        one-more d.slices.items st.pieces st.slices)
        slice-is))
        (let many = ap (λ xs. length xs) items in
        let more = length-append d.slices.items (slice_at root f.start f.used ∷ []) in
        omega (arith, many, more, left))
