-- What a view has in hand behind its next entries, where it has no more than this in hand.
use Rattle.std.proofs.Common.{◌≡◌, ℕ, zero, suc, ◌+◌, ◌<◌, ◌≤◌, List, Bool, true, false, cond, refl, sym, ap, subst, arith}
use Rattle.std.specs.Prelude.{sum_by, Option, Some, None, IfSome, nat_lt}
use Rattle.std.proofs.lemmas.Bool.{ltb-true, ltb-false}
use Rattle.step_law.specs.Settings.{Setting}
use Rattle.pool_law.specs.declared.id.Region.{Region}
use Rattle.pool_law.specs.declared.id.RootId.{RootId}
use Rattle.pool_law.specs.Places.{IsInPlace}
use Rattle.pool_law.specs.Same.{same_root}
use Rattle.pool_law.proofs.SameLemmas.{same_root-is}
use Rattle.history_laws.specs.NoteCounts.{is_taking, uses_in}
use Rattle.history_laws.proofs.ArenaTakings.{at_most}
use Rattle.handle_bin.specs.Bins.{HandleValue}
use Rattle.pool_table.specs.declared.views.Entry.{Entry}
use Rattle.pool_table.specs.declared.views.SeatView.{SeatView}
use Rattle.pool_table.specs.Counts.{weigh, on_this, on_place, ref_born, ref_ended, ref_vacated, HasToken}
use Rattle.pool_table.specs.declared.roots.EndToken.{EndToken}
use Rattle.pool_table.specs.Hands.{InHand, NoneWaits, HasRegion, HasNoEnd, at_in, at_out, at_birth, from_arena, to_arena, from_cache, to_cache, from_place, to_place, taken, put_down}
use Rattle.shared_pool.specs.declared.pool.SharedPool.{SharedPool}
use Rattle.shared_pool.specs.declared.seat.PoolSeat.{PoolSeat}
use Rattle.shared_pool.specs.Holding.{HoldsRegion, HoldsHandle}
use Rattle.shared_pool.specs.RootNotes.{HoldsToken}
use Rattle.shared_pool.specs.Seated.{HasNothing}
use Rattle.shared_pool.specs.SeatViews.{view_of}
use Rattle.seat_work.specs.Hands.{Hand, lane_in, empty_hand, is_place, is_token}
use Rattle.seat_work.proofs.Grown.{Grows, weigh_more}
use Rattle.seat_work.proofs.HandLaws.{Carries}
use Rattle.lane_stages.specs.declared.retirement.Ending.{Ending}
use Rattle.lane_stages.specs.declared.retirement.Ending.TheVariants.{Root, Cache, Arena, Home}
use Rattle.lane_stages.specs.Releasings.{hand_in}
use Rattle.shared_composite.specs.Endings.{HasOnly, Holds}

-- ---- Nothing in hand.

not_less : (a b : ℕ) → (a < b → ⊥) → b ≤ a
not_less a b never = go (nat_lt a b) refl
  where
    go : (t : Bool) → nat_lt a b ≡ t → b ≤ a
    go true is = absurd (never (ltb-true a b is))
    go false is = ltb-false a b is

pub only_nothing : (v : SeatView) → HasNothing v → HasOnly empty_hand v
only_nothing v nothing = record {
  places = λ p. (let a = not_less (put_down p v) (taken p v) (nothing.place p) in omega (arith, a));
  regions = λ q. (let a = not_less _ _ (nothing.region q) in omega (arith, a));
  tokens = λ root has. absurd (nothing.token root has);
}

pub nothing_only : (v : SeatView) → HasOnly empty_hand v → HasNothing v
nothing_only v only = record {
  region = λ q has. (let a = only.regions q in omega (arith, a, has));
  place = λ p has. (let a = only.places p in omega (arith, a, has));
  token = λ root has. (let a = only.tokens root has in omega (arith, a));
}

-- ---- The token in hand.

one_token : (root : RootId) (o : Option RootId) → is_token root o ≤ 1
one_token root None = omega arith
one_token root (Some other) = at_most (same_root other root)

is_true : (b : Bool) → cond {A = ℕ} b 1 0 ≡ 1 → b ≡ true
is_true true one = refl
is_true false one = absurd (omega (arith, one))

-- a seat that holds what is left of an end has the token that is in hand
pub held_token : (pool : SharedPool) (s : PoolSeat) (stage : Ending) → Holds pool s stage
    → (root : RootId) → is_token root (hand_in (Some stage)).token ≡ 1 → HasToken root (view_of s)
held_token pool s (Root token) holds root one =
    subst (λ (r : RootId). HasToken r (view_of s))
    (same_root-is token.root root (is_true (same_root token.root root) one)) holds.token_is
held_token pool s (Cache region handle) holds root one = absurd (omega (arith, one))
held_token pool s (Arena region handle) holds root one = absurd (omega (arith, one))
held_token pool s (Home handle) holds root one = absurd (omega (arith, one))

-- of a root's ends and vacatings, and of the token in hand before and after
token_sums : (ends vacated before after : ℕ) → before ≤ 1 → after ≤ 1 → ends + after ≡ vacated + 1 + before
    → (ends ≡ vacated + 1 → before ≡ 1) → (before ≡ 1 → ends ≡ vacated + 1) → after ≡ 1
token_sums ends vacated zero zero low few sum only had =
    absurd (let a = only (omega (arith, sum)) in omega (arith, a))
token_sums ends vacated zero (suc after) low few sum only had = omega (arith, few)
token_sums ends vacated (suc before) after low few sum only had =
    let one : suc before ≡ 1 = omega (arith, low) in
    let a = had one in omega (arith, a, one, sum)

-- ---- Behind the next entries.

module _ (v w : SeatView) (es : List Entry) (spent : ℕ) (grows : Grows v w es spent) where
  more : (f : Entry → ℕ) → weigh f w ≡ weigh f v + sum_by f es
  more f = weigh_more v w es spent grows f

  pub only_on : (before after : Hand) → Carries (lane_in v) before after es
      → ((root : RootId) → is_token root before.token ≡ 1 → HasToken root v) → HasOnly before v → HasOnly after w
  only_on before after carries had only = record {
    places =
        λ p. (let a = more (at_in p) in let b = more (on_place ref_vacated p) in let c = more (at_out p) in let d =
        more (on_place ref_born p) in
        let x = only.places p in let y = carries.places p in omega (arith, a, b, c, d, x, y));
    regions =
        λ q. (let f = is_taking q in let a = more (from_arena f) in let b = more (from_cache f) in let c =
        more (from_place f) in let d =
        more (to_arena f) in let e = more (to_cache f) in let g = more (to_place f) in
        let x = only.regions q in let y = carries.regions q in omega (arith, a, b, c, d, e, g, x, y));
    tokens =
        λ root has. token_sums (weigh (on_this ref_ended root) v) (weigh (on_this ref_vacated root) v)
        (is_token root before.token) (is_token root after.token) (one_token root before.token)
        (one_token root after.token)
        (let a = more (on_this ref_ended root) in let b = more (on_this ref_vacated root) in
        let y = carries.tokens root in omega (arith, a, b, y, has))
        (only.tokens root) (had root);
  }

module _ (pool : SharedPool) (old new : PoolSeat) (es : List Entry) (spent : ℕ)
    (grows : Grows (view_of old) (view_of new) es spent) where
  abbrev v : SeatView
  v = view_of old

  more_of : (f : Entry → ℕ) → weigh f (view_of new) ≡ weigh f v + sum_by f es
  more_of f = weigh_more v (view_of new) es spent grows f

  -- a handle stays in hand
  pub handle_on : (before after : Hand) (h : HandleValue) → Carries (lane_in v) before after es
      → after.place ≡ before.place → HoldsHandle pool old h → HoldsHandle pool new h
  handle_on before after h carries same holds = record {
    hand =
        (let p = h.place in let a = more_of (at_in p) in let b = more_of (on_place ref_vacated p) in
        let c = more_of (at_out p) in let d = more_of (on_place ref_born p) in let x = holds.hand in
        let y = carries.places p in let z = ap (is_place p) same in omega (arith, a, b, c, d, x, y, z));
    waits =
        (let p = h.place in let a = more_of (at_birth p) in let b = more_of (on_place ref_born p) in
        let x = holds.waits in let y = carries.births p in omega (arith, a, b, x, y));
    lane = holds.lane;
    place = holds.place;
  }

  -- and so does a region
  pub region_on : (hand : Hand) (r : Region) → Carries (lane_in v) hand hand es → HoldsRegion pool old r
      → HoldsRegion pool new r
  region_on hand r carries holds = record {
    hand = record {
      taking =
          (let q = r.id in let f = is_taking q in let a = more_of (from_arena f) in let b = more_of (from_cache f) in
          let c = more_of (from_place f) in let d = more_of (to_arena f) in let e = more_of (to_cache f) in
          let g = more_of (to_place f) in let x = holds.hand.taking in let y = carries.regions q in
          omega (arith, a, b, c, d, e, g, x, y));
      uses =
          (let q = r.id in let f = uses_in q in let a = more_of (from_arena f) in let b = more_of (from_cache f) in
          let c = more_of (from_place f) in let d = more_of (to_arena f) in let e = more_of (to_cache f) in
          let g = more_of (to_place f) in let h = more_of (to_place (is_taking q)) in let x = holds.hand.uses in
          let y = carries.uses q in omega (arith, a, b, c, d, e, g, h, x, y));
    };
    here =
        subst (λ (o : Option Setting). IfSome o (λ t. IsInPlace t.grounds r.id.place r.piece))
        (sym grows.more.setting) holds.here;
    owner = holds.owner;
    class = holds.class;
    len = holds.len;
  }

-- a seat that knows what it knew holds what it held
pub still_holds : (pool : SharedPool) (old new : PoolSeat) (stage : Ending) → view_of new ≡ view_of old
    → Holds pool old stage → Holds pool new stage
still_holds pool old new stage view holds = go stage holds
  where
    token : (t : EndToken) → HoldsToken old t → HoldsToken new t
    token t holds = record {
      token_is = subst (λ (v : SeatView). HasToken t.root v) (sym view) holds.token_is;
      no_end = subst (λ (v : SeatView). HasNoEnd t.root v) (sym view) holds.no_end;
    }

    handle : (h : HandleValue) → HoldsHandle pool old h → HoldsHandle pool new h
    handle h holds = record {
      hand = subst (λ (v : SeatView). InHand h.place v) (sym view) holds.hand;
      waits = subst (λ (v : SeatView). NoneWaits h.place v) (sym view) holds.waits;
      lane = holds.lane;
      place = holds.place;
    }

    region : (r : Region) → HoldsRegion pool old r → HoldsRegion pool new r
    region r holds = record {
      hand = subst (λ (v : SeatView). HasRegion r.id v) (sym view) holds.hand;
      here =
          subst (λ (v : SeatView). IfSome v.setting (λ t. IsInPlace t.grounds r.id.place r.piece)) (sym view)
          holds.here;
      owner = holds.owner;
      class = holds.class;
      len = holds.len;
    }

    go : (e : Ending) → Holds pool old e → Holds pool new e
    go (Root t) holds = token t holds
    go (Cache r h) holds = (region r holds.0, handle h holds.1, holds.2)
    go (Arena r h) holds = (region r holds.0, handle h holds.1)
    go (Home h) holds = handle h holds
