-- A cutter ends: the slices of a frame that doesn't end are let go, and the workers are told.
use Rattle.std.proofs.Common.{◌≡◌, ℕ, ◌-◌, ◌≤◌, Bool, List, [], ◌∷◌, ◌++◌, length, map, take, drop, refl, sym, ap, subst, ◌∙◌, arith, Option, Some, length-append}
use Rattle.std.specs.Prelude.{if◌then◌else◌, slice_get}
use Rattle.std.specs.Global.{Vec}
use Rattle.std.proofs.lemmas.Bool.{le-ltb, lt-ltb}
use Rattle.std.proofs.lemmas.List.{length-take, map-append, nil_from_length, take-append-drop}
use Rattle.pool_law.specs.declared.id.RootId.{RootId}
use Rattle.pool_law.specs.declared.id.ViewData.{ViewData}
use Rattle.pool_law.proofs.ListLemmas.{get-front}
use Rattle.pool_table.specs.declared.views.Entry.{Entry}
use Rattle.pool_table.specs.Counts.{HasCount}
use Rattle.seat_work.specs.Changes.{once_less}
use Rattle.seat_work.specs.Hands.{empty_hand}
use Rattle.seat_work.specs.Works.{IsLater, Proceeds}
use Rattle.shared_pool.specs.declared.seat.PoolSeat.{PoolSeat}
use Rattle.shared_pool.specs.SeatViews.{view_of}
use Rattle.job_queue.specs.declared.jobs.Job.TheVariants.{End}
use Rattle.frame_core.specs.declared.frame.FrameNo.{FrameNo}
use Rattle.frame_core.specs.declared.frame.FrameNo.TheVariants as nos
use Rattle.frame_hash.specs.declared.shared.Shared.{Shared}
use Rattle.frame_hash.specs.declared.turns.TheConstants.{RELEASE_TURNS}
use Rattle.frame_cutter.specs.declared.cutter.Cutter.{Cutter}
use Rattle.frame_cutter.specs.declared.stage.Stage.TheVariants.{LettingGo, Ending, Over}
use Rattle.frame_cutter.specs.declared.stage.Verdict.{Verdict}
use Rattle.frame_cutter.specs.declared.stage.Verdict.TheVariants.{Whole, Refused, Fault}
use Rattle.frame_cutter.specs.Sends.{AreSlices}
use Rattle.frame_cutter.specs.Stages.{roots_at}
use Rattle.frame_cutter.specs.Standing.{CountsJust, CutterStands, HasVerdict, IsMet, IsUnderway}
use Rattle.frame_cutter.specs.Stops.{StopsWithin}
use Rattle.frame_cutter.proofs.CountLaws.{counts_there, times-on}
use Rattle.frame_cutter.proofs.CutterLaws.{keeps_told, letting_go-plain}
use Rattle.frame_cutter.proofs.MovedLaws.{KeepsTold, moved, moved_to}
use Rattle.frame_cutter.proofs.SeatLaws.{ChangesTo, HasGone, gone_none, gone_quiet, slices_then}

-- ---- The last of some slices.

-- the front of some slices
front_slices : (es : List Entry) (lane : Option ℕ) (views : List ViewData) (view : ViewData) (pieces : List (List ℕ))
    → AreSlices es lane (views ++ view ∷ []) pieces → AreSlices es lane views (take (length views) pieces)
front_slices es lane views view pieces s = record {
  many =
      (let a = s.many in let b = length-append views (view ∷ []) in let c = length-take (length views) pieces in
      omega (arith, a, b, c));
  each = λ k v piece here there.
      s.each k v piece (get-front views (view ∷ []) k v here)
      (subst (λ (ps : List (List ℕ)). slice_get ps k ≡ Some piece) (take-append-drop (length views) pieces)
      (get-front (take (length views) pieces) (drop (length views) pieces) k piece there));
}

-- their roots
abbrev roots_of : List ViewData → List RootId
roots_of views = map (λ v. v.root) views

roots-last : (views : List ViewData) (view : ViewData)
    → roots_of (views ++ view ∷ []) ≡ roots_of views ++ view.root ∷ []
roots-last views view = map-append (λ (v : ViewData). v.root) views (view ∷ [])

less_last : (root : RootId) (roots : List RootId) (last : Bool)
    → ChangesTo (once_less root last) (roots ++ root ∷ []) roots
less_last root roots last q = let a = times-on q roots (root ∷ []) in omega (arith, a)

-- ---- What a stream came to, whatever else the cutter does.

met_same : (why : FrameNo) (d e : Cutter) → e.last ≡ d.last → IsMet why d → IsMet why e
met_same (nos.Inside number) d e same met = same ∙ met
met_same (nos.Length number) d e same met = tt
met_same nos.Frames d e same met = tt
met_same nos.Stream d e same met = tt

module _ (d e : Cutter) (same : e.last ≡ d.last) (block : e.block ≡ d.block) (read : List ℕ)
    (handed : List (List (List ℕ))) where
  pub verdict_same : (v : Verdict) → HasVerdict v d read handed → HasVerdict v e read handed
  verdict_same Whole is = (same ∙ is.0, is.1, is.2)
  verdict_same (Refused why) is = (
    met_same why d e same is.0,
    is.1,
    subst (λ (n : ℕ). StopsWithin n read) (sym block) is.2,
  )
  verdict_same Fault is = tt

-- ---- A slice is let go, or none is left.

module _ (shared : Shared) (d : Cutter) (read : List ℕ) (st : CutterStands shared d read)
    (letting : d.stage ≡ LettingGo)
    (popped : Vec ViewData) where
  -- the turns that are left behind it
  abbrev left : ℕ
  left = d.turns - RELEASE_TURNS

  verdict-is : HasVerdict d.verdict d read st.handed
  verdict-is = subst (λ s. IsUnderway s d read st.handed st.pieces) letting st.underway

  counts-before : CountsJust (roots_of d.slices.items) (view_of d.seat)
  counts-before = subst (λ s. CountsJust (roots_at s d.slices.items) (view_of d.seat)) letting st.counts

  lets-told : KeepsTold d.workers d.stage LettingGo
  lets-told = subst (λ s. KeepsTold d.workers s LettingGo) (sym letting)
      (keeps_told d.workers LettingGo LettingGo letting_go-plain letting_go-plain)

  module _ (slice : ViewData) (items : d.slices.items ≡ popped.items ++ slice ∷ []) where
    counts-last : CountsJust (roots_of popped.items ++ slice.root ∷ []) (view_of d.seat)
    counts-last =
        subst (λ (rs : List RootId). CountsJust rs (view_of d.seat))
        (ap (λ (vs : List ViewData). roots_of vs) items ∙ roots-last popped.items slice) counts-before

    -- the last one is counted
    pub has_slice : HasCount slice.root (view_of d.seat)
    has_slice = counts_there (view_of d.seat) slice.root (roots_of popped.items) [] counts-last

    pub lets_go : (seat : PoolSeat) (last : Bool) → RELEASE_TURNS ≤ d.turns
        → Proceeds shared.pool.now empty_hand RELEASE_TURNS 0 (once_less slice.root last) d.seat seat
        → IsLater shared.pool.now d.seat seat
        → CutterStands shared (moved_to d seat left d.moves d.finds d.last d.slicer popped d.stage d.verdict) read
    lets_go seat last enough proceeds later =
        subst (λ s. CutterStands shared
        (moved_to d seat left d.moves d.finds d.last d.slicer popped s d.verdict) read) (sym letting)
        (moved shared d read st seat left d.moves d.finds d.last d.slicer popped LettingGo d.verdict
        (take (length popped.items) st.pieces) went lets-told read
        (front_slices (view_of seat).own.notes (Some d.workers) popped.items slice st.pieces
        (subst (λ (vs : List ViewData). AreSlices (view_of seat).own.notes (Some d.workers) vs st.pieces) items
        (slices_then shared.pool.now d.workers left d.moves (roots_of popped.items) d.seat seat went
        d.slices.items st.pieces st.slices)))
        (let a = ap (λ (vs : List ViewData). length vs) items in let b = length-append popped.items (slice ∷ []) in
        omega (arith, a, b))
        (verdict_same d (moved_to d seat left d.moves d.finds d.last d.slicer popped LettingGo d.verdict) refl refl
        read st.handed d.verdict verdict-is))
      where
        went : HasGone shared.pool.now d.workers left d.moves (roots_of popped.items) d.seat seat
        went =
            gone_quiet shared.pool.now d.workers d.turns d.moves RELEASE_TURNS 0 left d.moves
            (once_less slice.root last)
            d.seat seat st.stands.works st.stands.lane proceeds (omega (arith, enough)) (omega arith)
            (roots_of popped.items ++ slice.root ∷ []) (roots_of popped.items)
            (less_last slice.root (roots_of popped.items) last) counts-last st.fresh later

  -- no slice is left
  module _ (none : d.slices.items ≡ []) (same : popped.items ≡ []) where
    no_pieces : st.pieces ≡ []
    no_pieces =
        nil_from_length st.pieces
        (let a = st.slices.many in let b = ap (λ (vs : List ViewData). length vs) none in omega (arith, a, b))

    starts-told : KeepsTold d.workers d.stage (Ending 0)
    starts-told = subst (λ s. KeepsTold d.workers s (Ending 0)) (sym letting) (record {
      before = refl;
      behind = refl;
      ends = λ worker below.
          sym (ap (λ (b : Bool). if b then End ∷ [] else []) (le-ltb worker 0 (omega arith)));
    })

    same_items : popped.items ≡ d.slices.items
    same_items = same ∙ sym none

    pub none_left : CutterStands shared
        (moved_to d d.seat d.turns d.moves d.finds d.last d.slicer popped (Ending 0) d.verdict) read
    none_left =
        moved shared d read st d.seat d.turns d.moves d.finds d.last d.slicer popped (Ending 0) d.verdict st.pieces
        (gone_none shared.pool.now d.workers d.turns d.moves (roots_at (Ending 0) popped.items) d.seat st.stands.works
        st.stands.lane st.fresh
        (subst (λ (vs : List ViewData). CountsJust (roots_of vs) (view_of d.seat)) (sym same_items) counts-before))
        starts-told read
        (subst (λ (vs : List ViewData). AreSlices (view_of d.seat).own.notes (Some d.workers) vs st.pieces)
        (sym same_items) st.slices)
        (let a = ap (λ (vs : List ViewData). length vs) same_items in omega (arith, a)) (
          verdict_same d (moved_to d d.seat d.turns d.moves d.finds d.last d.slicer popped (Ending 0) d.verdict) refl
              refl read st.handed d.verdict verdict-is,
          omega arith,
          no_pieces,
        )

-- ---- All workers are told.

module _ (shared : Shared) (d : Cutter) (read : List ℕ) (st : CutterStands shared d read) (next : ℕ)
    (ending : d.stage ≡ Ending next) where
  ending-is : IsUnderway (Ending next) d read st.handed st.pieces
  ending-is = subst (λ s. IsUnderway s d read st.handed st.pieces) ending st.underway

  module _ (all : next ≡ d.workers) where
    all-told : KeepsTold d.workers d.stage Over
    all-told = subst (λ s. KeepsTold d.workers s Over) (sym ending) (record {
      before = refl;
      behind = refl;
      ends = λ worker below.
          ap (λ (b : Bool). if b then End ∷ [] else []) (lt-ltb worker next (omega (arith, below, all)));
    })

    pub over : CutterStands shared (record d { stage = Over }) read
    over =
        moved shared d read st d.seat d.turns d.moves d.finds d.last d.slicer d.slices Over d.verdict st.pieces
        (gone_none shared.pool.now d.workers d.turns d.moves (roots_at Over d.slices.items) d.seat st.stands.works
        st.stands.lane st.fresh
        (subst (λ s. CountsJust (roots_at s d.slices.items) (view_of d.seat)) ending st.counts))
        all-told read st.slices (omega arith)
        (verdict_same d (record d { stage = Over }) refl refl read st.handed d.verdict ending-is.0, ending-is.2)
