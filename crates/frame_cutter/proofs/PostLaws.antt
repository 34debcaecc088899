-- A cutter that hands its frame over: the next slice is posted.
use Rattle.std.proofs.Common.{◌≡◌, ℕ, zero, suc, ◌+◌, ◌-◌, ◌<◌, ◌≢◌, Bool, true, false, List, [], ◌∷◌, ◌++◌, length, map, get_or, set, take, drop, eqb, eq-eqb, ne_eqb, eqb-true, refl, sym, ap, subst, ◌∙◌, arith, Option, Some, append_assoc}
use Rattle.std.specs.Prelude.{◌%◌, ◌&&◌, if◌then◌else◌, slice_get, slice_index, unwrap_or, vec_len}
use Rattle.std.specs.Global.{Vec}
use Rattle.std.proofs.Math.Seq.{drop-cons}
use Rattle.std.proofs.lemmas.List.{get_or-set_other, get_or-set_same, length-set, take_more}
use Rattle.std.proofs.lemmas.Option.{get_or_from_slice_get, slice_get_read, slice_get_within}
use Rattle.std.proofs.lemmas.Bool.{and_right}
use mathlib.Core.Logic.{dite}
use native.Mathlib.Decide.{ℕ_discrete}
use Rattle.pool_law.specs.declared.id.Parcel.{Parcel}
use Rattle.pool_law.specs.declared.id.RootId.{RootId}
use Rattle.pool_law.specs.declared.id.ViewData.{ViewData}
use Rattle.pool_law.specs.declared.note.Did.{Did}
use Rattle.pool_law.specs.declared.note.Object.TheVariants.{Mail}
use Rattle.pool_law.specs.Naming.{noted_by}
use Rattle.pool_law.proofs.ListLemmas.{item-at}
use Rattle.pool_table.specs.declared.views.Entry.{Entry}
use Rattle.pool_table.specs.declared.views.Entry.TheVariants.{At}
use Rattle.pool_table.specs.Counts.{HasCount}
use Rattle.pool_table.specs.Letters.{sent_on}
use Rattle.seat_work.specs.Changes.{Changes, times}
use Rattle.seat_work.specs.HandOvers.{Sends, posted}
use Rattle.seat_work.specs.Hands.{empty_hand}
use Rattle.seat_work.specs.Works.{Goes}
use Rattle.seat_work.proofs.Knowing.{knows_born}
use Rattle.seat_work.proofs.Proceeding.{works_after}
use Rattle.shared_pool.specs.declared.seat.PoolSeat.{PoolSeat}
use Rattle.shared_pool.specs.Knowing.{ReachesKnown}
use Rattle.shared_pool.specs.MailAnswers.{HasRoom, IsPosted, RoomFor}
use Rattle.shared_pool.specs.Notes.{plain}
use Rattle.shared_pool.specs.SeatLanes.{lane_of}
use Rattle.shared_pool.specs.SeatViews.{view_of}
use Rattle.frame_hash.specs.declared.shared.Shared.{Shared}
use Rattle.frame_hash.specs.Told.{pieces_of, share_of}
use Rattle.frame_cutter.specs.declared.cutter.Cutter.{Cutter}
use Rattle.frame_cutter.specs.declared.stage.Stage.{Stage}
use Rattle.frame_cutter.specs.declared.stage.Stage.TheVariants.{Handing}
use Rattle.frame_cutter.specs.Sends.{AreSlices, HasSent, IsSlice, WriteFresh, Writes, posts_in}
use Rattle.frame_cutter.specs.Stages.{gone_of, jobs_at, pieces_at, roots_at}
use Rattle.frame_cutter.specs.Standing.{CountsJust, CutterStands, HasServed, IsUnderway}
use Rattle.frame_cutter.proofs.CountLaws.{counts_there, second_posted}
use Rattle.frame_cutter.proofs.FreshLaws.{WriteNone, fresh_kept}
use Rattle.frame_cutter.proofs.NoteLaws.{posts-on, sent_kept, sent_more, slices_kept, writes_kept}
use Rattle.frame_cutter.proofs.SentLaws.{posts_sent}

-- ---- A letter alone.

abbrev pub letter_to : ℕ → ℕ → ℕ → ViewData → Entry
letter_to sender receiver number view =
    At (Mail sender receiver) number (noted_by (Some sender) (plain (Did.Post (record { view = Some view }))))

pub letter_writes_none : (sender receiver number : ℕ) (view : ViewData)
    → WriteNone (letter_to sender receiver number view ∷ [])
letter_writes_none sender receiver number view zero noted offset bytes w = absurd (cc (w.stands))
letter_writes_none sender receiver number view (suc at) noted offset bytes w = absurd (cc (w.stands))

no-post : (t : Bool) (n : ℕ) (p : Parcel) → t ≡ false
    → length {A = ℕ × Parcel} ((if t then (n, p) ∷ [] else []) ++ []) ≡ 0
no-post true n p e = absurd (cc e)
no-post false n p e = refl

-- it goes to no other lane
pub letter_elsewhere : (sender receiver other number : ℕ) (view : ViewData) → other ≢ receiver
    → posts_in sender other (letter_to sender receiver number view ∷ []) ≡ 0
letter_elsewhere sender receiver other number view ne =
    no-post (eqb sender sender && eqb other receiver) number (record { view = Some view })
    (and_right (eqb sender sender) (eqb other receiver) (ne_eqb other receiver ne))

-- ---- A slice at a place of a vector.

pub slice_at_place : (slices : Vec ViewData) (place len : ℕ) (view : ViewData) → len ≡ vec_len slices → place < len
    → view ≡ get_or slices.items place view → slice_get slices.items place ≡ Some view
slice_at_place slices place len view len_is low view_is =
    let many = slices.ok.0 in
    slice_get_read slices.items (length slices.items) place view refl (omega (arith, len_is, many, low)) view_is

-- ---- Where it stands.

module _ (shared : Shared) (d : Cutter) (read : List ℕ) (st : CutterStands shared d read) (root : RootId)
    (used gone : ℕ) (handing : d.stage ≡ Handing root used gone) where
  pub handing_at : IsUnderway (Handing root used gone) d read st.handed st.pieces
  handing_at = subst (λ (s : Stage). IsUnderway s d read st.handed st.pieces) handing st.underway

  -- the worker whose the frame is
  abbrev pub to : ℕ
  to = d.frames % d.workers

  module _ (view : ViewData) (there : slice_get d.slices.items gone ≡ Some view) where
    rest-is : drop gone d.slices.items ≡ view ∷ drop (suc gone) d.slices.items
    rest-is =
        drop-cons d.slices.items gone view (slice_get_within d.slices.items gone view there)
        ∙ ap (λ (v : ViewData). v ∷ drop (suc gone) d.slices.items)
        (get_or_from_slice_get d.slices.items gone view view there)

    pub counts_both : CountsJust (root ∷ view.root ∷ map (λ v. v.root) (drop (suc gone) d.slices.items))
        (view_of d.seat)
    counts_both =
        subst (λ (vs : List ViewData). CountsJust (root ∷ map (λ v. v.root) vs) (view_of d.seat)) rest-is
        (subst (λ (s : Stage). CountsJust (roots_at s d.slices.items) (view_of d.seat)) handing st.counts)

    pub counts_view : HasCount view.root (view_of d.seat)
    counts_view =
        counts_there (view_of d.seat) view.root (root ∷ []) (map (λ v. v.root) (drop (suc gone) d.slices.items))
        counts_both

    -- its piece
    pub piece_there : (p : List ℕ) × (slice_get st.pieces gone ≡ Some p)
    piece_there =
        let a = slice_get_within d.slices.items gone view there in let b = st.slices.many in
        item-at st.pieces gone (omega (arith, a, b))

    pub slice_there : IsSlice (view_of d.seat).own.notes (Some d.workers) view piece_there.0
    slice_there = st.slices.each gone view piece_there.0 there piece_there.1

    pub known : ReachesKnown (view_of d.seat) view
    known =
        let a = slice_there.born_so in let b = knows_born (view_of d.seat) view.root in omega (arith, a, b)

    lane-is : lane_of d.seat ≡ d.workers
    lane-is = ap (λ (n : Option ℕ). unwrap_or n 0) st.stands.lane

    pub room : to < d.workers → 0 < slice_index d.rooms.items to
        → HasRoom shared.pool.now (lane_of d.seat) to (view_of d.seat)
    room below some =
        subst (λ (lane : ℕ). HasRoom shared.pool.now lane to (view_of d.seat)) (sym lane-is)
        (λ m. let a = (st.served to below).room m in omega (arith, a, some))

    -- ---- It is posted.

    module _ (seat : PoolSeat) (number : ℕ) (goes : Goes shared.pool.now empty_hand 0 0 d.seat seat)
        (changes : Changes (posted (record { view = Some view })) (view_of d.seat) (view_of seat))
        (sends : Sends 1 (view_of d.seat) (view_of seat)) (some : to < d.workers)
        (noted : IsPosted d.seat seat to number (record { view = Some view })) (rooms : Vec ℕ)
        (has : 0 < slice_index d.rooms.items to)
        (took : rooms.items ≡ set d.rooms.items to (slice_index d.rooms.items to - 1)) where
      abbrev es : List Entry
      es = (view_of d.seat).own.notes

      abbrev letter : Entry
      letter = letter_to d.workers to number view

      more : (view_of seat).own.notes ≡ es ++ letter ∷ []
      more =
          ap (λ m. m.0.own.notes) noted.noted
          ∙ ap (λ (lane : ℕ). es ++ At (Mail lane to) number
          (noted_by (view_of d.seat).own.number (plain (Did.Post (record { view = Some view })))) ∷ []) lane-is
          ∙ ap (λ (own : Option ℕ). es ++ At (Mail d.workers to) number
          (noted_by own (plain (Did.Post (record { view = Some view })))) ∷ []) st.stands.lane

      abbrev share : ℕ → List (List ℕ)
      share worker = pieces_of (share_of d.workers worker 0 st.handed)

      abbrev with_first : ℕ → ℕ → Bool → List (List ℕ)
      with_first worker n t = share worker ++ (if t then take n st.pieces else [])

      abbrev pieces_before : ℕ → ℕ → List (List ℕ)
      pieces_before worker n = with_first worker gone (eqb (n % d.workers) worker)

      abbrev pieces_after : ℕ → ℕ → List (List ℕ)
      pieces_after worker n = with_first worker (gone + 1) (eqb (n % d.workers) worker)

      one_more : take (gone + 1) st.pieces ≡ take gone st.pieces ++ piece_there.0 ∷ []
      one_more =
          take_more st.pieces gone piece_there.0 (slice_get_within st.pieces gone piece_there.0 piece_there.1)
          ∙ ap (λ (p : List ℕ). take gone st.pieces ++ p ∷ [])
          (get_or_from_slice_get st.pieces gone piece_there.0 piece_there.0 piece_there.1)

      elsewhere : (worker : ℕ) (pieces : List (List ℕ)) → worker ≢ to → HasSent es d.workers worker pieces
          → HasSent (es ++ letter ∷ []) d.workers worker pieces
      elsewhere worker pieces ne s =
          sent_kept es (letter ∷ []) d.workers worker pieces (letter_elsewhere d.workers to worker number view ne) s

      sent_at : (worker : ℕ) (t : Bool) → eqb to worker ≡ t → HasSent es d.workers worker (with_first worker gone t)
          → HasSent (es ++ letter ∷ []) d.workers worker (with_first worker (gone + 1) t)
      sent_at worker true e s =
          let same : to ≡ worker = eqb-true to worker e in
          subst (λ (ps : List (List ℕ)). HasSent (es ++ letter ∷ []) d.workers worker ps)
          (append_assoc (share worker) (take gone st.pieces) (piece_there.0 ∷ [])
          ∙ ap (λ ps. share worker ++ ps) (sym one_more))
          (subst (λ (w : ℕ). HasSent (es ++ letter ∷ []) d.workers w
          ((share worker ++ take gone st.pieces) ++ piece_there.0 ∷ [])) same
          (sent_more es d.workers to number view piece_there.0 (share worker ++ take gone st.pieces) slice_there
          (subst (λ (w : ℕ). HasSent es d.workers w (share worker ++ take gone st.pieces)) (sym same) s)))
      sent_at worker false e s =
          elsewhere worker (with_first worker gone false)
          (λ is. let yes = eq-eqb to worker (sym is) in cc (sym yes ∙ e)) s

      -- ---- The room of its worker's mail.

      fewer : slice_index rooms.items to ≡ slice_index d.rooms.items to - 1
      fewer =
          let many = st.stands.rooms in
          ap (λ (ns : List ℕ). slice_index ns to) took
          ∙ get_or-set_same d.rooms.items to (slice_index d.rooms.items to - 1) 0 (omega (arith, many, some))

      as_many : (worker : ℕ) → worker ≢ to → slice_index rooms.items worker ≡ slice_index d.rooms.items worker
      as_many worker ne =
          ap (λ (ns : List ℕ). slice_index ns worker) took
          ∙ get_or-set_other d.rooms.items to worker (slice_index d.rooms.items to - 1) 0 ne

      none_sent : (worker : ℕ) → worker ≢ to
          → sent_on d.workers worker (view_of seat).own.notes ≡ sent_on d.workers worker es
      none_sent worker ne =
          let a = posts_sent d.workers worker es in
          let b = posts_sent d.workers worker (es ++ letter ∷ []) in
          let c = posts-on d.workers worker es (letter ∷ []) in
          let e = letter_elsewhere d.workers to worker number view ne in
          let f = ap (sent_on d.workers worker) more in
          omega (arith, a, b, c, e, f)

      room_then : (worker : ℕ) → worker < d.workers
          → RoomFor shared.pool.now d.workers worker
          (sent_on d.workers worker (view_of seat).own.notes + slice_index rooms.items worker)
      room_then worker below =
          dite (ℕ_discrete worker to)
          (λ is. subst (λ (w : ℕ). RoomFor shared.pool.now d.workers w
          (sent_on d.workers w (view_of seat).own.notes + slice_index rooms.items w)) (sym is)
          (λ m.
          let a = (st.served to some).room m in let b = sends.sent to in let c = fewer in
          let own = ap (λ (n : Option ℕ). sent_on (unwrap_or n 0) to (view_of seat).own.notes)
          (goes.number ∙ st.stands.lane) in
          let was = ap (λ (n : Option ℕ). sent_on (unwrap_or n 0) to es) st.stands.lane in
          omega (arith, a, b, c, own, was, has)))
          (λ ne m.
          let a = (st.served worker below).room m in let b = none_sent worker ne in let c = as_many worker ne in
          omega (arith, a, b, c))

      abbrev sent_cutter : Cutter
      sent_cutter = record d { seat = seat; stage = Handing root used (gone + 1); rooms = rooms }

      served_then : (worker : ℕ) → worker < d.workers → HasServed shared sent_cutter st.handed st.pieces worker
      served_then worker below =
          let s = st.served worker below in
          record {
            end = s.end;
            end_is = s.end_is;
            sends = s.sends;
            jobs = s.jobs ∙ ap (jobs_at d.workers worker st.handed) handing;
            sent =
                subst (λ (ns : List Entry). HasSent ns d.workers worker (pieces_after worker (length st.handed)))
                (sym more)
                (subst (λ (n : ℕ). HasSent (es ++ letter ∷ []) d.workers worker (pieces_after worker n)) st.frames
                (sent_at worker (eqb to worker) refl
                (subst (λ (n : ℕ). HasSent es d.workers worker (pieces_before worker n)) (sym st.frames)
                (subst (λ (g : Stage). HasSent es d.workers worker (pieces_at d.workers worker st.handed g st.pieces))
                handing s.sent))));
            few =
                (let a = s.few in let b = sends.sent worker in let c = ap gone_of handing in
                let own = ap (λ (n : Option ℕ). sent_on (unwrap_or n 0) worker (view_of seat).own.notes)
                (goes.number ∙ st.stands.lane) in
                let was = ap (λ (n : Option ℕ). sent_on (unwrap_or n 0) worker es) st.stands.lane in
                let low = slice_get_within d.slices.items gone view there in
                omega (arith, a, b, c, own, was, low));
            room = room_then worker below;
          }

      pub posts : CutterStands shared sent_cutter read
      posts =
          let s = st.stands in
          let b = st.block in
          let at = handing_at in
          let inside = at.2.0 in
          let frame = at.2.1.2 in
          let low = slice_get_within d.slices.items gone view there in
          let many = st.slices.many in
          record {
            stands = record {
              works =
                  works_after shared.pool.now empty_hand empty_hand d.turns d.moves 0 0 d.turns d.moves d.seat seat
                  s.works goes (omega arith) (omega arith);
              lane = goes.number ∙ s.lane;
              lanes = s.lanes;
              some = s.some;
              queues = s.queues;
              ends = s.ends;
              rooms =
                  ap (λ (ns : List ℕ). length ns) took
                  ∙ length-set d.rooms.items to (slice_index d.rooms.items to - 1) ∙ s.rooms;
            };
            block = record { some = b.some; few = b.few; class = b.class };
            counts = counted;
            handed = st.handed;
            pieces = st.pieces;
            frames = st.frames;
            fresh =
                subst WriteFresh (sym more)
                (fresh_kept es (letter ∷ []) st.fresh (letter_writes_none d.workers to number view));
            slices =
                subst (λ (ns : List Entry). AreSlices ns (Some d.workers) d.slices.items st.pieces) (sym more)
                (slices_kept es (letter ∷ []) (Some d.workers) d.slices.items st.pieces st.slices);
            served = served_then;
            others = λ other above.
                subst (λ (ns : List Entry). HasSent ns d.workers other []) (sym more)
                (elsewhere other [] (λ is. omega (arith, is, above, some)) (st.others other above));
            underway = (
              at.0,
              at.1,
              (
                record {
                  read_is = inside.read_is;
                  blocks = inside.blocks;
                  few = inside.few;
                  full = inside.full;
                  capacity = inside.capacity;
                  rest = inside.rest;
                  written =
                      subst (λ (ns : List Entry). Writes ns (Some d.workers) root (at.1 ++ inside.rest))
                      (sym more) (writes_kept es (letter ∷ []) (Some d.workers) root _ inside.written);
                },
                (at.2.1.0, omega (arith, low, many), record { frames = frame.frames; healthy = frame.healthy }),
              ),
            );
          }
        where
          next : gone + 1 ≡ suc gone
          next = omega arith

          counted : CountsJust (root ∷ map (λ v. v.root) (drop (gone + 1) d.slices.items)) (view_of seat)
          counted q =
              let a = changes.counts q in let b = counts_both q in
              let c = second_posted root view (map (λ v. v.root) (drop (suc gone) d.slices.items)) q in
              let e = ap (λ n. times q (root ∷ map (λ v. v.root) (drop n d.slices.items))) next in
              omega (arith, a, b, c, e)
