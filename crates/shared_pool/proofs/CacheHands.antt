-- Regions in a seat's hands: what a pop and a shed of a cache take up, and what is put into one.
use Rattle.std.proofs.Common.{◌≡◌, ℕ, ◌+◌, ◌<◌, ◌≤◌, List, [], ◌∷◌, ◌++◌, length, Bool, true, false, cond, eqb, sym, refl, ap, ◌∙◌, subst, arith, eqb-true, eq-eqb}
use Rattle.std.specs.Prelude.{Option, Some, None, IfSome, IsTrue, is_some, option_and_then, ◌&&◌, ◌-◌, min, not}
use Rattle.step_law.specs.Settings.{Setting}
use Rattle.step_law.specs.declared.Told.{Ghosts}
use Rattle.size_classes.specs.Sizes.{class_count}
use Rattle.size_classes.proofs.Geometries.{page_shift-is}
use Rattle.pool_law.specs.declared.run.Shape.{Shape}
use Rattle.pool_law.specs.declared.id.Region.{Region}
use Rattle.pool_law.specs.declared.id.RegionId.{RegionId}
use Rattle.pool_law.specs.declared.note.Did.{Did}
use Rattle.pool_law.specs.declared.note.Did.TheVariants.{Hit, Trim, Close, Shed}
use Rattle.pool_law.specs.declared.note.Noted.{Noted}
use Rattle.pool_law.specs.declared.note.Object.{Object}
use Rattle.pool_law.specs.declared.note.Object.TheVariants.{Cache as CacheOf}
use Rattle.pool_law.specs.Caches.{Cache as CacheState, new_cache, lane_cache_step, is_own, if_so}
use Rattle.pool_law.specs.Histories.{cache_after}
use Rattle.pool_law.specs.Limits.{IsShape, cache_capacity, geometry_of}
use Rattle.pool_law.specs.NotedHistories.{noted_dids}
use Rattle.pool_law.specs.Places.{IsInPlace}
use Rattle.pool_law.proofs.HistoryLemmas.{after-noted}
use Rattle.pool_law.proofs.SameLemmas.{and-second}
use Rattle.pool_law.proofs.PatternLemmas.{same_taking-refl}
use Rattle.history_laws.specs.Histories.{IsLawful}
use Rattle.history_laws.specs.NoteCounts.{is_taking, uses_in, arena_out, arena_in, cache_out, cache_in, place_out, place_in, weight_or, ended_region}
use Rattle.history_laws.proofs.Regions.{OfCache, cache_own}
use Rattle.history_laws.proofs.CacheSteps.{IsCacheStep}
use Rattle.history_laws.proofs.Told.{cache_there, next_cache}
use Rattle.pool_table.specs.declared.views.Entry.TheVariants.{At}
use Rattle.pool_table.specs.declared.views.SeatView.{SeatView}
use Rattle.pool_table.specs.declared.views.Layout.{Layout}
use Rattle.pool_table.specs.declared.table.PoolSeat.{PoolSeat as TableSeat}
use Rattle.pool_table.specs.declared.table.Section.{Section}
use Rattle.pool_table.specs.Views.{with_entry, entered}
use Rattle.pool_table.specs.Hands.{from_arena, to_arena, from_cache, to_cache, from_place, to_place, HasRegion, IsPutDown, PutsDown}
use Rattle.pool_table.specs.Learned.{Enters, in_own, takes_of, gives_of}
use Rattle.pool_table.specs.Seats.{view_of}
use Rattle.pool_table.specs.Sections.{GotSection}
use Rattle.pool_table.proofs.Weights.{weigh_entry}
use Rattle.shared_pool.specs.declared.home.Home.{Home}
use Rattle.shared_pool.specs.declared.pool.SharedPool.{SharedPool}
use Rattle.shared_pool.specs.declared.seat.PoolSeat.{PoolSeat}
use Rattle.shared_pool.specs.declared.went.Put.{Put}
use Rattle.shared_pool.specs.declared.went.Put.TheVariants.{Kept, Back}
use Rattle.shared_pool.specs.CacheAnswers.{was_put, WasInPlace}
use Rattle.shared_pool.specs.Holding.{HoldsRegion}
use Rattle.shared_pool.specs.Notes.{hit}
use Rattle.shared_pool.specs.SeatViews.{view_of as seat_view}
use Rattle.shared_pool.specs.Standing.{HomeStands}
use Rattle.shared_pool.proofs.Endings.{stood}

-- ---- A region that a note takes out of a cache.

-- the note moves this region out of a cache, and nothing else
record TakesOut (r : RegionId) (n : Noted) : Type 0 where
  arena : (w : RegionId → ℕ) → arena_out w n.did + arena_in w n.did ≡ 0
  cache : (w : RegionId → ℕ) → cache_out w n.did ≡ w r
  kept : (w : RegionId → ℕ) → cache_in w n.did ≡ 0
  place : (w : RegionId → ℕ) → place_out w n + place_in w n.did ≡ 0

hit_takes : (r : RegionId) (n : Noted) → n.did ≡ Hit r → TakesOut r n
hit_takes r n did = record {
  arena = λ w. ap (λ (d : Did). arena_out w d + arena_in w d) did;
  cache = λ w. ap (cache_out w) did;
  kept = λ w. ap (cache_in w) did;
  place = λ w. ap (λ (d : Did). weight_or w (ended_region d n.region) + place_in w d) did;
}

shed_takes : (r : RegionId) (n : Noted) → n.did ≡ Shed r → TakesOut r n
shed_takes r n did = record {
  arena = λ w. ap (λ (d : Did). arena_out w d + arena_in w d) did;
  cache = λ w. ap (cache_out w) did;
  kept = λ w. ap (cache_in w) did;
  place = λ w. ap (λ (d : Did). weight_or w (ended_region d n.region) + place_in w d) did;
}

one_of : (r : RegionId) → is_taking r r ≡ 1
one_of r = ap (λ (b : Bool). cond {A = ℕ} b 1 0) (same_taking-refl r)

uses_of : (r : RegionId) → uses_in r r ≡ r.uses
uses_of r = ap (λ (b : Bool). cond {A = ℕ} b r.uses 0) (same_taking-refl r)

module _ (v : SeatView) (r : RegionId) (o : Object) (number turns : ℕ) (n : Noted) (out : TakesOut r n) where
  -- the region is in hand after the note, where its taking wasn't before
  taken_up : IsPutDown r v → HasRegion r (with_entry v (At o number n) turns)
  taken_up down =
      let t : RegionId → ℕ = is_taking r in let u : RegionId → ℕ = uses_in r in
      let ta = weigh_entry (to_arena t) v (At o number n) turns in let tc =
      weigh_entry (to_cache t) v (At o number n) turns in let tp =
      weigh_entry (to_place t) v (At o number n) turns in
      let fa = weigh_entry (from_arena t) v (At o number n) turns in let fc =
      weigh_entry (from_cache t) v (At o number n) turns in let fp =
      weigh_entry (from_place t) v (At o number n) turns in
      let ua = weigh_entry (to_arena u) v (At o number n) turns in let uc =
      weigh_entry (to_cache u) v (At o number n) turns in let up =
      weigh_entry (to_place u) v (At o number n) turns in
      let xa = weigh_entry (from_arena u) v (At o number n) turns in let xc =
      weigh_entry (from_cache u) v (At o number n) turns in let xp =
      weigh_entry (from_place u) v (At o number n) turns in
      let a = out.arena t in let c = out.cache t in let k = out.kept t in let p = out.place t in
      let a' = out.arena u in let c' = out.cache u in let k' = out.kept u in let p' = out.place u in
      let one = one_of r in let uses = uses_of r in let x = down.taking in let y = down.uses in
      record {
        taking = omega (arith, ta, tc, tp, fa, fc, fp, a, c, k, p, one, x);
        uses = omega (arith, tp, ua, uc, up, xa, xc, xp, p, a', c', k', p', uses, y);
      }

-- ---- What a seat holds after a pop and a shed.

module _ {G : Ghosts Home Noted} (pool : SharedPool) (lane class : ℕ) (old new : TableSeat Home G) (last : PoolSeat)
    (section : Section Home) (got : GotSection HomeStands pool.table.layout (CacheOf lane class) old new section)
    (setting : Setting) (known : (view_of old).setting ≡ Some setting)
    (below : lane < pool.table.layout.shape.lanes) (cached : class < 40) (shape : IsShape pool.table.layout.shape) where
  abbrev s : Shape
  s = pool.table.layout.shape

  -- what was taken out of the cache is in the seat's hands
  held : (number turns : ℕ) (n : Noted) (x : Region) → TakesOut x.id n
      → IsLawful s (CacheOf lane class) (got.history ++ n ∷ []) →
      ((c y : CacheState) → IsCacheStep lane class c n.did y → c.regions ≡ x.id ∷ y.regions) → WasInPlace section.home x
      →
      seat_view last ≡ with_entry (view_of old) (At (CacheOf lane class) number n) turns →
      HoldsRegion pool last x × (x.id.owner ≡ lane) × (x.id.class ≡ class)
  held number turns n x out follows front was seen =
      let l = pool.table.layout in let v = view_of old in
      let at = stood l (CacheOf lane class) old new section got setting known in
      let step = next_cache s lane class got.history n follows in
      let whole = was _ setting got.history at in
      let of : OfCache lane class (x.id ∷ step.1.regions) =
      subst (OfCache lane class) (front step.0 step.1 step.3)
      (cache_own s lane class got.history step.0 got.learned.accepted step.2) in
      let one = one_of x.id in let c = out.cache (is_taking x.id) in
      let down = got.learned.free x.id n follows (omega (arith, one, c)) in
      let order = shape.order_least in let shift = (page_shift-is s.page shape.page).least in (
        record {
          hand = subst (HasRegion x.id) (sym seen) (taken_up v x.id (CacheOf lane class) number turns n out down);
          here =
              subst (λ (y : Option Setting). IfSome y (λ t. IsInPlace t.grounds x.id.place x.piece))
              (sym (ap (λ (w : SeatView). w.setting) seen ∙ known)) whole.0;
          owner = subst (λ (k : ℕ). k < s.lanes) (sym of.0.0) below;
          class = subst (λ (k : ℕ). k < class_count (geometry_of s)) (sym of.0.1) (omega (arith, cached, order, shift));
          len = whole.1;
        },
        of.0.0,
        of.0.1,
      )

  hit_front : (n : Noted) (r : RegionId) → n.did ≡ Hit r → (c y : CacheState) → IsCacheStep lane class c n.did y
      → c.regions ≡ r ∷ y.regions
  hit_front n r did c y step = subst (λ (d : Did). IsCacheStep lane class c d y) did step

  shed_front : (n : Noted) (r : RegionId) → n.did ≡ Shed r → (c y : CacheState) → IsCacheStep lane class c n.did y
      → c.regions ≡ r ∷ y.regions
  shed_front n r did c y step = subst (λ (d : Did). IsCacheStep lane class c d y) did step

  pub popped_held : (number turns : ℕ) (n : Noted) (r : Option Region) → n.did ≡ hit r
      → IsLawful s (CacheOf lane class) (got.history ++ n ∷ []) → IfSome r (λ x. WasInPlace section.home x) →
      seat_view last ≡ with_entry (view_of old) (At (CacheOf lane class) number n) turns →
      IfSome r (λ x. HoldsRegion pool last x × (x.id.owner ≡ lane) × (x.id.class ≡ class))
  popped_held number turns n None did follows was seen = tt
  popped_held number turns n (Some x) did follows was seen =
      held number turns n x (hit_takes x.id n did) follows (hit_front n x.id did) was seen

  pub shed_held : (number turns : ℕ) (n : Noted) (x : Region) → n.did ≡ Shed x.id
      → IsLawful s (CacheOf lane class) (got.history ++ n ∷ []) → WasInPlace section.home x →
      seat_view last ≡ with_entry (view_of old) (At (CacheOf lane class) number n) turns →
      HoldsRegion pool last x × (x.id.owner ≡ lane) × (x.id.class ≡ class)
  shed_held number turns n x did follows was seen =
      held number turns n x (shed_takes x.id n did) follows (shed_front n x.id did) was seen

-- ---- What a trim and a close answer.

module _ (l : Layout) (lane class : ℕ) (v : SeatView) (h : List Noted) (home : Home)
    (e : Enters HomeStands l (CacheOf lane class) v h home) (number : v.own.number ≡ Some lane) where
  -- a note that may come next, and gives a quota of no more regions than are in the cache, gives it of as many
  -- as the seat took and didn't give
  bounded : (k : ℕ) (d : Did) (n : Noted) → n.did ≡ d → IsLawful l.shape (CacheOf lane class) (h ++ n ∷ [])
      → ((c : CacheState) → IsTrue (is_some (lane_cache_step lane class c d)) → k ≤ length c.regions)
      → k + in_own (gives_of lane class) v ≤ in_own (takes_of class) v
  bounded k d n did follows most =
      let c = cache_there l.shape lane class h e.accepted in
      let next : cache_after lane class (noted_dids (h ++ n ∷ [])) ≡ lane_cache_step lane class c.0 d =
      after-noted (lane_cache_step lane class) new_cache h n
      ∙ ap (option_and_then (λ t. lane_cache_step lane class t n.did)) c.1
      ∙ ap (lane_cache_step lane class c.0) did in
      let all : k ≤ length c.0.regions = most c.0
      (subst (λ (o : Option CacheState). IsTrue (is_some o)) next follows.accepted) in
      let bound = (e.cache lane class c.0 refl number c.1).bound in
      let x : ℕ = length c.0.regions in let all' : k ≤ x = all in let g : ℕ = in_own (gives_of lane class) v in
      let t : ℕ = in_own (takes_of class) v in
      let bound' : x + g ≤ t = bound in let goal' : k + g ≤ t = omega (arith, all', bound') in goal'

  sure : (b : Bool) (x : CacheState) → IsTrue (is_some (if_so b x)) → b ≡ true
  sure true x is = refl
  sure false x is = absurd (cc is)

  pub close_bound : (k : ℕ) (n : Noted) → n.did ≡ Close k → IsLawful l.shape (CacheOf lane class) (h ++ n ∷ [])
      → k + in_own (gives_of lane class) v ≤ in_own (takes_of class) v
  close_bound k n did follows = bounded k (Close k) n did follows most
    where
      most : (c : CacheState) → IsTrue (is_some (lane_cache_step lane class c (Close k))) → k ≤ length c.regions
      most c is =
          let both = sure (eqb c.quota 0 && (not c.closed && eqb k (length c.regions)))
          (record c { quota = k; closed = true }) is in
          let all = eqb-true k (length c.regions)
          (and-second (not c.closed) (eqb k (length c.regions))
          (and-second (eqb c.quota 0) (not c.closed && eqb k (length c.regions)) both)) in
          omega (arith, all)

  pub trim_bound : (k : ℕ) (n : Noted) → n.did ≡ Trim k → IsLawful l.shape (CacheOf lane class) (h ++ n ∷ [])
      → k + in_own (gives_of lane class) v ≤ in_own (takes_of class) v
  trim_bound k n did follows = bounded k (Trim k) n did follows most
    where
      most : (c : CacheState) → IsTrue (is_some (lane_cache_step lane class c (Trim k))) → k ≤ length c.regions
      most c is =
          let unserved = cache_capacity class - c.served in
          let both = sure (eqb c.quota 0 && eqb k (min (length c.regions) unserved))
          (record c { quota = k; served = 0 }) is in
          let least : k ≡ min (length c.regions) unserved =
          eqb-true k (min (length c.regions) unserved)
          (and-second (eqb c.quota 0) (eqb k (min (length c.regions) unserved)) both) in
          omega (arith, least)

-- ---- What is put into a cache.

-- a region that is kept is in hand
pub puts_down : (w v : SeatView) (o : Object) (h : List Noted) (r : RegionId) (p : Put) (d : Did)
    → w ≡ entered v o h (length h) → d ≡ was_put r p → HasRegion r v → PutsDown w d
puts_down w v o h r p d is did has =
    subst (λ (x : SeatView × Did). PutsDown x.0 x.1) (λ i. (sym is i, sym did i)) (by p)
  where
    by : (p : Put) → PutsDown (entered v o h (length h)) (was_put r p)
    by Kept = record { taking = has.taking; uses = has.uses }
    by (Back x why) = tt

-- and it is put at its own cache
pub put_own : (r : RegionId) (p : Put) → is_own r.owner r.class (was_put r p) ≡ true
put_own r p = by p
  where
    both : (m n : Bool) → m ≡ true → n ≡ true → (m && n) ≡ true
    both true n x y = y
    both false n x y = x

    by : (p : Put) → is_own r.owner r.class (was_put r p) ≡ true
    by Kept =
        both (eqb r.owner r.owner) (eqb r.class r.class) (eq-eqb r.owner r.owner refl) (eq-eqb r.class r.class refl)
    by (Back x why) =
        both (eqb r.owner r.owner) (eqb r.class r.class) (eq-eqb r.owner r.owner refl) (eq-eqb r.class r.class refl)

-- what a pop notes may be noted at any lane's cache
pub hit_own : (lane class : ℕ) (r : Option Region) → is_own lane class (hit r) ≡ true
hit_own lane class (Some x) = refl
hit_own lane class None = refl
