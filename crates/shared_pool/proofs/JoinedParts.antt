-- The parts of the seats with which a pool is closed, as the parts of one view.
use Rattle.std.proofs.Common.{◌≡◌, ℕ, ◌+◌, ◌<◌, ◌≤◌, List, [], ◌∷◌, ◌++◌, append_assoc, length, map, sym, refl, ap, ◌∙◌, subst, arith, get_or, Some}
use Rattle.std.specs.Prelude.{All, HoldsAt, reverse, slice_get, sum_by}
use Rattle.std.proofs.lemmas.Option.{slice_get_within, get_or_from_slice_get}
use Rattle.std.proofs.lemmas.List.Elements.{All-cons, All-head, All-map, All-nil, All-tail}
use Rattle.std.proofs.lemmas.List.{length-map, reverse-append, reverse-reverse}
use Rattle.std.proofs.lemmas.List.Sums.{sum_by-cons}
use Rattle.std.proofs.lemmas.Simd.{map-map}
use mathlib.Core.Logic.{dite}
use native.Mathlib.Decide.{ℕ_discrete, dec_le}
use Rattle.atomic_table.specs.Seated.{TableId}
use Rattle.pool_law.specs.declared.id.RootId.{RootId}
use Rattle.pool_law.specs.declared.run.Shape.{Shape}
use Rattle.shared_pool.specs.declared.seat.PoolSeat.{PoolSeat}
use Rattle.pool_table.specs.declared.views.Entry.{Entry}
use Rattle.pool_table.specs.declared.views.Layout.{Layout}
use Rattle.pool_table.specs.declared.views.Part.{Part}
use Rattle.pool_table.specs.declared.views.SeatView.{SeatView}
use Rattle.pool_table.specs.Closed.{HasAllLanes}
use Rattle.pool_table.specs.Counts.{weigh, weigh_in, on_place, on_this, ref_born, ref_ended, ref_vacated}
use Rattle.pool_law.specs.declared.id.RegionId.{RegionId}
use Rattle.pool_law.proofs.ListLemmas.{map-get}
use Rattle.history_laws.specs.NoteCounts.{is_taking}
use Rattle.pool_table.specs.Hands.{HasTaking, at_in, at_out, taken, put_down, from_arena, to_arena, from_cache, to_cache, from_place, to_place, weight_taken, weight_put_down}
use Rattle.shared_pool.specs.SeatViews.{view_of}
use Rattle.pool_table.specs.Seats.{view_of as table_view}
use Rattle.pool_table.specs.Views.{joined, parts_of}
use Rattle.pool_table.specs.declared.table.PoolTable.{PoolTable}
use Rattle.shared_pool.specs.declared.home.Home.{Home}
use Rattle.shared_pool.specs.declared.pool.SharedPool.{SharedPool}
use Rattle.shared_pool.specs.Closing.{AreLanes, HasNoPlace}
use Rattle.shared_pool.specs.Joining.{IsApart, AreApart, AreFetchesOf, HaveFetches, arenas_known}
use Rattle.shared_pool.specs.MailEnds.{IsReceiver, KnownEnds, receiver}
use Rattle.shared_pool.specs.Mails.{AreFetches}
use Rattle.shared_pool.specs.Seated.{HasNothing, IsDone, AreDone, parts_in}
use Rattle.shared_pool.proofs.ClosingEntries.{from_at}
use Rattle.shared_pool.proofs.ClosingMails.{lanes_all}

-- nothing in hand, by parts
abbrev pub HasNoToken : List Part → Type 0
HasNoToken ps = (r : RootId) → weigh_in (on_this ref_ended r) ps ≡ 1 → weigh_in (on_this ref_vacated r) ps ≡ 0 → ⊥

abbrev HasNoPlaceIn : List Part → Type 0
HasNoPlaceIn ps =
    (p : ℕ) → weigh_in (at_in p) ps + weigh_in (on_place ref_vacated p) ps ≤ weigh_in (at_out p) ps + weigh_in
    (on_place ref_born p) ps

abbrev HasNoTakingIn : List Part → Type 0
HasNoTakingIn ps =
    (q : RegionId) → weigh_in (from_arena (is_taking q)) ps
    + (weigh_in (from_cache (is_taking q)) ps + weigh_in (from_place (is_taking q)) ps) ≤
    weigh_in (to_arena (is_taking q)) ps + (weigh_in (to_cache (is_taking q)) ps + weigh_in (to_place (is_taking q)) ps)

-- a view with one part
own_weighs : (f : Entry → ℕ) (s : PoolSeat) → (view_of s).others ≡ []
    → weigh f (view_of s) ≡ sum_by f (view_of s).own.notes
own_weighs f s alone =
    let a = sum_by-cons (λ (q : Part). sum_by f q.notes) (view_of s).own (view_of s).others in
    let b : weigh_in f (view_of s).others ≡ 0 = ap (weigh_in f) alone in omega (arith, a, b)

-- the parts of a view to which a seat's was joined
pub joined_more : (v w : SeatView) (t : PoolSeat) (rest seats : List PoolSeat) → (view_of t).others ≡ []
    → w ≡ joined v (view_of t) → seats ≡ rest ++ t ∷ [] →
    parts_of w ++ parts_in (reverse rest) ≡ parts_of v ++ parts_in (reverse seats)
joined_more v w t rest seats alone is popped =
    ap (λ (u : SeatView). parts_of u ++ parts_in (reverse rest)) is
    ∙ ap (λ (ps : List Part). v.own ∷ (v.others ++ ((view_of t).own ∷ ps)) ++ parts_in (reverse rest)) alone
    ∙ ap (λ (ps : List Part). v.own ∷ ps)
    (append_assoc v.others ((view_of t).own ∷ []) (parts_in (reverse rest)))
    ∙ ap (λ (ss : List PoolSeat). parts_of v ++ parts_in ss)
    (sym (ap reverse popped ∙ reverse-append rest (t ∷ [])))

-- the parts of the first of them, and of the others
pub first_parts : (s : PoolSeat) (rest seats : List PoolSeat) → (view_of s).others ≡ []
    → reverse seats ≡ rest ++ s ∷ [] →
    parts_of (view_of s) ++ parts_in (reverse rest) ≡ parts_in seats
first_parts s rest seats alone is =
    ap (λ (ps : List Part). (view_of s).own ∷ (ps ++ parts_in (reverse rest))) alone
    ∙ ap (λ (ss : List PoolSeat). parts_in ss)
    (sym (reverse-append rest (s ∷ [])) ∙ ap (λ (ss : List PoolSeat). reverse ss) (sym is)
    ∙ reverse-reverse seats)

pub record IsEmptyHanded (s : PoolSeat) : Type 0 where
  pub alone : (view_of s).others ≡ []
  pub nothing : HasNothing (view_of s)

more : (f : Entry → ℕ) (s : PoolSeat) (ss : List PoolSeat) → (view_of s).others ≡ []
    → weigh_in f (parts_in (s ∷ ss)) ≡ weigh f (view_of s) + weigh_in f (parts_in ss)
more f s ss alone =
    let a = sum_by-cons (λ (q : Part). sum_by f q.notes) (view_of s).own (parts_in ss) in let b =
    own_weighs f s alone in
    omega (arith, a, b)

no_place : (ss : List PoolSeat) → All IsEmptyHanded ss → HasNoPlaceIn (parts_in ss)
no_place [] all p = omega arith
no_place (s ∷ ss) all p =
    let e = All-head IsEmptyHanded s ss all in let ih = no_place ss (All-tail IsEmptyHanded s ss all) p in
    let a = more (at_in p) s ss e.alone in let b = more (on_place ref_vacated p) s ss e.alone in
    let c = more (at_out p) s ss e.alone in let d = more (on_place ref_born p) s ss e.alone in
    let x : ℕ = taken p (view_of s) in let y : ℕ = put_down p (view_of s) in
    let le : x ≤ y = dite (dec_le x y) (λ le. le)
    (λ gt. absurd (e.nothing.place p (let z : y < x = omega (arith, gt) in z))) in
    omega (arith, a, b, c, d, ih, le)

no_taking : (ss : List PoolSeat) → All IsEmptyHanded ss → HasNoTakingIn (parts_in ss)
no_taking [] all q = omega arith
no_taking (s ∷ ss) all q =
    let e = All-head IsEmptyHanded s ss all in let ih = no_taking ss (All-tail IsEmptyHanded s ss all) q in
    let a = more (from_arena (is_taking q)) s ss e.alone in let b = more (from_cache (is_taking q)) s ss e.alone in
    let c = more (from_place (is_taking q)) s ss e.alone in
    let d = more (to_arena (is_taking q)) s ss e.alone in let f = more (to_cache (is_taking q)) s ss e.alone in
    let k = more (to_place (is_taking q)) s ss e.alone in
    let x : ℕ = weight_taken (is_taking q) (view_of s) in let y : ℕ = weight_put_down (is_taking q) (view_of s) in
    let le : x ≤ y = dite (dec_le x y) (λ le. le)
    (λ gt. absurd (e.nothing.region q (let z : y < x = omega (arith, gt) in z))) in
    omega (arith, a, b, c, d, f, k, ih, le)

no_token : (ss : List PoolSeat) → All IsEmptyHanded ss → HasNoToken (parts_in ss)
no_token [] all r one none = absurd (omega (arith, one))
no_token (s ∷ ss) all r one none =
    let e = All-head IsEmptyHanded s ss all in let ih = no_token ss (All-tail IsEmptyHanded s ss all) r in
    let a = more (on_this ref_ended r) s ss e.alone in let b = more (on_this ref_vacated r) s ss e.alone in
    dite (ℕ_discrete (weigh (on_this ref_ended r) (view_of s)) 0)
    (λ z. ih (omega (arith, a, z, one)) (omega (arith, b, none)))
    (λ ne. e.nothing.token r (omega (arith, a, b, one, none, ne)))

-- seats of a pool whose seats of the table are the same have the same notes
pub same_parts : (xs ys : List PoolSeat) → map (λ (s : PoolSeat). s.seat) xs ≡ map (λ (s : PoolSeat). s.seat) ys
    → parts_in xs ≡ parts_in ys
same_parts xs ys same =
    sym (map-map (λ s. (table_view s).own) (λ (s : PoolSeat). s.seat) xs)
    ∙ ap (λ ss. map (λ s. (table_view s).own) ss) same
    ∙ map-map (λ s. (table_view s).own) (λ (s : PoolSeat). s.seat) ys

-- and there are as many
pub as_many : (xs ys : List PoolSeat) → map (λ (s : PoolSeat). s.seat) xs ≡ map (λ (s : PoolSeat). s.seat) ys
    → length xs ≡ length ys
as_many xs ys same =
    sym (length-map xs (λ (s : PoolSeat). s.seat)) ∙ ap (λ ss. length ss) same
    ∙ length-map ys (λ (s : PoolSeat). s.seat)

-- a seat that may be joined
abbrev pub IsReady : PoolTable Home → PoolSeat → Type 0
IsReady table s = IsApart table s.seat

pub all_ready : (table : PoolTable Home) (seats : List PoolSeat)
    → AreApart table (map (λ (s : PoolSeat). s.seat) seats) → All (IsReady table) seats
all_ready table [] apart = All-nil (IsReady table)
all_ready table (s ∷ ss) apart =
    All-cons (IsReady table) s ss (All-head (IsApart table) s.seat (map (λ (s : PoolSeat). s.seat) ss) apart)
    (all_ready table ss (All-tail (IsApart table) s.seat (map (λ (s : PoolSeat). s.seat) ss) apart))

module _ (pool : SharedPool) (seats : List PoolSeat) (done : AreDone pool seats) where
  abbrev shape : Shape
  shape = pool.table.layout.shape

  one : (lane : ℕ) (s : PoolSeat) → slice_get seats lane ≡ Some s → IsDone pool lane s
  one lane s is =
      let lt : lane < shape.lanes = subst (λ (n : ℕ). lane < n) done.many (slice_get_within seats lane s is) in
      subst (IsDone pool lane) (get_or_from_slice_get seats lane s s is) (done.each lane lt s)

  pub lanes_in : AreLanes shape (parts_in seats)
  lanes_in =
      record {
        many = length-map seats (λ (s : PoolSeat). (view_of s).own) ∙ done.many;
        numbers =
            λ lane p is. let t =
            map-get (λ (s : PoolSeat). (view_of s).own) seats lane p is in
            ap (λ (q : Part). q.number) (sym t.2) ∙ (one lane t.0 t.1).number;
      }

  pub apart : AreApart pool.table (map (λ (s : PoolSeat). s.seat) seats)
  apart =
      All-map (IsApart pool.table) (λ (s : PoolSeat). s.seat) seats
      (from_at (λ (s : PoolSeat). IsApart pool.table s.seat) seats (λ lane s is. let d = (one lane s is).seat in
      record {
        own = d.own;
        outside = d.outside;
        alone = d.alone;
        settled = ap arenas_known d.settled
            ∙ ap (λ (n : ℕ). Some n) d.arenas;
      }))

  -- each has its lane's ends of the mails
  pub ends : HaveFetches pool.mails.items pool.layout.shape.lanes seats
  ends lane lt s = subst
      (λ (l : Layout). AreFetchesOf pool.mails.items l.shape.lanes lane (get_or seats lane s).fetches.items)
      pool.same_layout
      (fetches lane (subst (λ (l : Layout). lane < l.shape.lanes) (sym pool.same_layout) lt) s)
    where
      receives : (e : KnownEnds) (table : TableId) (from to room count : ℕ)
          → e ≡ receiver table from to room count → IsReceiver e
      receives e table from to room count is =
          subst (λ (x : KnownEnds). x ≡ receiver x.table x.from x.to x.room x.received) (sym is) refl

      fetches : (lane : ℕ) → lane < shape.lanes
          → HoldsAt (λ (s : PoolSeat). AreFetchesOf pool.mails.items shape.lanes lane s.fetches.items) seats lane
      fetches lane lt s from below pass m =
          let d = done.each lane lt s in let same : d.seat.lane ≡ lane = cc (sym d.seat.number ∙ d.number) in
          let its = get_or seats lane s in
          let f = subst (λ (k : ℕ). AreFetches pool k (view_of its).own.notes its.fetches.items) same d.seat.fetches
          from below pass m in
          (f.0, receives _ _ _ _ _ _ f.1)

  empty_handed : All IsEmptyHanded seats
  empty_handed =
      from_at IsEmptyHanded seats (λ lane s is. let d = one lane s is in
      record { alone = d.seat.alone; nothing = d.nothing })

  module _ (v : SeatView) (parts : parts_of v ≡ parts_in seats) where
    pub lanes_joined : AreLanes shape (parts_of v)
    lanes_joined = subst (AreLanes shape) (sym parts) lanes_in

    pub all_lanes : HasAllLanes pool.table.layout v
    all_lanes = lanes_all pool.table.layout v lanes_joined

    pub places_joined : HasNoPlace v
    places_joined p hand =
        let le = subst HasNoPlaceIn (sym parts) (no_place seats empty_handed) p in
        let x : ℕ = taken p v in let y : ℕ = put_down p v in let le' : x ≤ y = le in let lt : y < x = hand in
        absurd (omega (arith, le', lt))

    pub takings_joined : (q : RegionId) → HasTaking q v → ⊥
    takings_joined q hand =
        let le = subst HasNoTakingIn (sym parts) (no_taking seats empty_handed) q in
        let x : ℕ = weight_taken (is_taking q) v in let y : ℕ = weight_put_down (is_taking q) v in
        let le' : x ≤ y = le in let lt : y < x = hand in
        absurd (omega (arith, le', lt))

    pub tokens_joined : HasNoToken (parts_of v)
    tokens_joined = subst HasNoToken (sym parts) (no_token seats empty_handed)
