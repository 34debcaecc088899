-- Who has a taking: one view, one cache or one root place.
use Rattle.step_law.specs.Settings.{Setting}
use Rattle.std.proofs.Common.{◌≡◌, ◌≢◌, ℕ, suc, ◌+◌, ◌*◌, ◌/◌, ◌%◌, ◌<◌, ◌≤◌, List, true, refl, subst, arith}
use Rattle.std.specs.Prelude.{Option, All, sum_by}
use Rattle.std.proofs.lemmas.List.Elements.{All-weaker}
use mathlib.Core.Logic.{dite}
use native.Mathlib.Decide.{dec_le}
use mathlib.Core.Option.{some}
use lib.ListN.{get_elem?}
use Rattle.atomic_table.specs.Table.{State}
use Rattle.step_law.proofs.Changes.{each_at}
use Rattle.pool_law.specs.declared.id.RegionId.{RegionId}
use Rattle.pool_law.specs.declared.note.Did.{Did}
use Rattle.pool_law.specs.declared.note.Noted.{Noted}
use Rattle.pool_law.specs.declared.note.Object.{Object}
use Rattle.pool_law.specs.declared.note.Object.TheVariants.{Arena, Cache, Root}
use Rattle.pool_law.specs.Same.{same_taking}
use Rattle.pool_law.specs.Arenas.{Arena as ArenaState}
use Rattle.pool_law.specs.Caches.{Cache as CacheState, new_cache}
use Rattle.pool_law.specs.Roots.{RootPlace, new_place}
use Rattle.history_laws.specs.Histories.{IsArenaAfter}
use Rattle.history_laws.specs.NoteCounts.{is_taking, uses_in, weight_or, arena_out, arena_in, cache_out, cache_in, ended_region, place_out, place_in}
use Rattle.history_laws.proofs.ArenaTakings.{arena_laws, uses_light, fewer_noted, sum_zero}
use Rattle.history_laws.proofs.Told.{arena_there, cache_there, place_there}
use Rattle.pool_table.specs.declared.views.Layout.{Layout}
use Rattle.pool_table.specs.declared.views.SeatView.{SeatView}
use Rattle.pool_table.specs.Views.{noted_weight}
use Rattle.pool_table.specs.Counts.{weigh}
use Rattle.pool_table.specs.Hands.{from_arena, to_arena, from_cache, to_cache, from_place, to_place, weight_taken, weight_put_down, uses_come, uses_gone, HasTaking, IsPutDown}
use Rattle.pool_table.specs.Holders.{region_at, AreStates, IsInOneHold}
use Rattle.pool_table.specs.Sound.{IsSound, IsView}
use Rattle.pool_table.proofs.Partition.{sum_to_at, sum_to_none, chosen, in_views}
use Rattle.pool_table.proofs.Ledgers.{sum_add, Pays, each_even, each_near, one_odd, one_less}
use Rattle.pool_table.proofs.Places.{strict_two}
use Rattle.pool_table.proofs.Holdings.{taking_key}
use Rattle.pool_table.proofs.RegionNotes.{given_light, taken_light, object_notes, among_arena, all_among, among_none, CacheHas, PlaceHas, cache_has, place_has, Spread, cached, placed, roots_from, out_light, in_light, born_light, option_light, row_notes, among_caches, among_places, one_taking}

module _ {H : Type 0} (stands : List ℕ → Setting → List Noted → H → Type 0) (l : Layout) where
  abbrev St : Type 0
  St = State (Option H) SeatView

  -- what an arena says of a taking: how often it is out, and that what is out wasn't given back and had no uses
  pub record Side (s : St) (q : RegionId) (out : ℕ) : Type 0 where
    pub balance : sum_by (weigh (from_arena (is_taking q))) s.views
        ≡ sum_by (weigh (to_arena (is_taking q))) s.views + out
    pub most : sum_by (weigh (from_arena (is_taking q))) s.views ≤ 1
    pub unused : sum_by (weigh (from_arena (uses_in q))) s.views ≡ 0
    pub kept : 0 < out → sum_by (weigh (to_arena (uses_in q))) s.views ≡ 0

  pub arena_side : (s : St) (r : IsSound stands l s) (q : RegionId) (fits : q.place.arena < l.shape.arenas)
      (x : ArenaState) → IsArenaAfter l.shape q.place.arena (r.objects (Arena q.place.arena) fits).history x
      → Side s q (sum_by (is_taking q) x.out)
  arena_side s r q fits x after =
      let a : ℕ = q.place.arena in let o : Object = Arena a in let h = (r.objects o fits).history in
      let law = arena_laws l.shape a h x (r.objects o fits).accepted after in
      let t = object_notes stands l s r o fits (λ (n : Noted). arena_out (is_taking q) n.did)
      (among_arena stands l q (λ (n : Noted). arena_out (is_taking q) n.did) (λ n z. omega (arith, z))) in
      let g = object_notes stands l s r o fits (λ (n : Noted). arena_in (is_taking q) n.did)
      (among_arena stands l q (λ (n : Noted). arena_in (is_taking q) n.did) (λ n z. omega (arith, z))) in
      let u = object_notes stands l s r o fits (λ (n : Noted). arena_out (uses_in q) n.did)
      (among_arena stands l q (λ (n : Noted). arena_out (uses_in q) n.did)
      (λ n z. taken_light q n.did (omega (arith, z)))) in
      let v = object_notes stands l s r o fits (λ (n : Noted). arena_in (uses_in q) n.did)
      (among_arena stands l q (λ (n : Noted). arena_in (uses_in q) n.did) (λ n z. given_light q n.did (omega
      (arith, z)))) in
      let e = law.balance q refl in let f = fewer_noted q h in let m = law.taken_once q.taking in let w =
      law.unused q in
      record {
        balance = omega (arith, t, g, e);
        most = omega (arith, t, f, m);
        unused = omega (arith, u, w);
        kept = λ lt.
            let none : sum_by (λ (n : Noted). arena_in (is_taking q) n.did) h ≡ 0 = omega (arith, e, f, m, lt) in
            let z = sum_zero (λ (n : Noted). arena_in (is_taking q) n.did) (λ (n : Noted). arena_in (uses_in q) n.did)
            (λ n z. given_light q n.did z) h none in
            omega (arith, v, z);
      }

  -- how often it is out, whatever its arena
  pub some_side : (s : St) (r : IsSound stands l s) (q : RegionId) → (out : ℕ) × Side s q out
  some_side s r q = dite (dec_le (suc q.place.arena) l.shape.arenas)
      (λ le. let fits : q.place.arena < l.shape.arenas = omega (arith, le) in
      let x = arena_there l.shape q.place.arena (r.objects (Arena q.place.arena) fits).history
      (r.objects (Arena q.place.arena) fits).accepted in
      (sum_by (is_taking q) x.0.out, arena_side s r q fits x.0 x.1))
      (λ gt. let none : q.place.arena < l.shape.arenas → ⊥ = (λ lt. gt (omega (arith, lt))) in
      let sum : (w : Noted → ℕ) → ((n : Noted) → arena_out (is_taking q) n.did + arena_in (is_taking q) n.did ≡ 0
      → w n ≡ 0) → 0 ≡ sum_by (weigh (noted_weight w)) s.views =
      (λ w bound. in_views l.shape 0 0 w s.views (all_among stands l s r 0 0 w (among_none stands l q w none bound))) in
      let a = sum (λ (n : Noted). arena_out (is_taking q) n.did) (λ n z. omega (arith, z)) in let b =
      sum (λ (n : Noted). arena_in (is_taking q) n.did) (λ n z. omega (arith, z)) in
      let c = sum (λ (n : Noted). arena_out (uses_in q) n.did) (λ n z. taken_light q n.did (omega (arith, z))) in (
        0,
        record {
          balance = omega (arith, a, b);
          most = omega (arith, a);
          unused = omega (arith, c);
          kept =
              λ lt. absurd (omega (arith, lt));
        },
      ))

  -- all caches and all root places
  pub some_spread : (s : St) (r : IsSound stands l s)
      → (caches : ℕ → CacheState) × (places : ℕ → RootPlace) × Spread stands l s caches places
  some_spread s r =
      let c = chosen (l.shape.lanes * 40) (CacheHas stands l s) new_cache (λ i lt.
      let d : ℕ = i / 40 in let k : ℕ = i % 40 in let dl : d < l.shape.lanes = omega (arith, lt) in let kl : k < 40 =
      omega arith in
      let x = cache_there l.shape d k (r.objects (Cache d k) (dl, kl)).history
      (r.objects (Cache d k) (dl, kl)).accepted in
      let same : d * 40 + k ≡ i = omega arith in
      (x.0, subst (λ (j : ℕ). CacheHas stands l s j x.0) same (cache_has stands l s r d k (dl, kl) x.0 x.1))) in
      let p = chosen (l.shape.lanes * l.shape.handles) (PlaceHas stands l s) new_place (λ p lt.
      let x = place_there l.shape p (r.objects (Root p) lt).history (r.objects (Root p) lt).accepted in
      (x.0, place_has stands l s r p lt x.0 x.1)) in
      (c.0, p.0, record { cached = c.1; placed = p.1 })

  -- the sums over all views
  pub record Sums (s : St) (q : RegionId) (out : ℕ) (caches : ℕ → CacheState) (places : ℕ → RootPlace) : Type 0 where
    pub most : out ≤ 1
    pub held : sum_by (weight_taken (is_taking q)) s.views + (cached stands l (is_taking q) caches
        + placed stands l (is_taking q) places)
        ≡ sum_by (weight_put_down (is_taking q)) s.views + out
    pub uses : 0 < out → sum_by (uses_come q) s.views + (cached stands l (uses_in q) caches
        + placed stands l (uses_in q) places)
        ≡ sum_by (uses_gone q) s.views + sum_by (weigh (to_place (is_taking q))) s.views

  pub sums : (s : St) (r : IsSound stands l s) (q : RegionId) (out : ℕ) (caches : ℕ → CacheState)
      (places : ℕ → RootPlace) → Side s q out → Spread stands l s caches places → Sums s q out caches places
  sums s r q out caches places side spread =
      let grasp : (w : RegionId → ℕ) → sum_by (weight_taken w) s.views
      ≡ sum_by (weigh (from_arena w)) s.views
      + (sum_by (weigh (from_cache w)) s.views + sum_by (weigh (from_place w)) s.views) = (λ w.
      let a = sum_add (weigh (from_arena w)) (λ (v : SeatView). weigh (from_cache w) v + weigh (from_place w) v)
      s.views in let b = sum_add (weigh (from_cache w)) (weigh (from_place w)) s.views in
      omega (arith, a, b)) in
      let lay : (w : RegionId → ℕ) → sum_by (weight_put_down w) s.views
      ≡ sum_by (weigh (to_arena w)) s.views
      + (sum_by (weigh (to_cache w)) s.views + sum_by (weigh (to_place w)) s.views) = (λ w.
      let a = sum_add (weigh (to_arena w)) (λ (v : SeatView). weigh (to_cache w) v + weigh (to_place w) v) s.views in
      let b = sum_add (weigh (to_cache w)) (weigh (to_place w)) s.views in
      omega (arith, a, b)) in
      let through_caches : (w : RegionId → ℕ) → ((d : Did) → cache_out (is_taking q) d ≡ 0 → cache_out w d ≡ 0)
      → ((d : Did) → cache_in (is_taking q) d ≡ 0 → cache_in w d ≡ 0)
      → sum_by (weigh (to_cache w)) s.views
      ≡ sum_by (weigh (from_cache w)) s.views + cached stands l w caches = (λ w lo li.
      row_notes stands l s r l.shape.arenas (l.shape.lanes * 40) (λ (n : Noted). cache_in w n.did)
      (λ (n : Noted). cache_out w n.did) (λ i. sum_by w (caches i).regions)
      (among_caches stands l q (λ (n : Noted). cache_in w n.did) (λ n z. li n.did (omega (arith, z))))
      (among_caches stands l q (λ (n : Noted). cache_out w n.did) (λ n z. lo n.did (omega (arith, z))))
      (λ i lt. spread.cached i lt w)) in
      let through_places : (w : RegionId → ℕ)
      → ((o : Option RegionId) → weight_or (is_taking q) o ≡ 0 → weight_or w o ≡ 0)
      → ((d : Did) → place_in (is_taking q) d ≡ 0 → place_in w d ≡ 0)
      → sum_by (weigh (to_place w)) s.views
      ≡ sum_by (weigh (from_place w)) s.views + placed stands l w places = (λ w lo li.
      row_notes stands l s r (roots_from l.shape) (l.shape.lanes * l.shape.handles) (λ (n : Noted). place_in w n.did)
      (place_out w) (λ p. weight_or w (region_at (places p)))
      (among_places stands l q (λ (n : Noted). place_in w n.did) (λ n z. li n.did (omega (arith, z))))
      (among_places stands l q (place_out w) (λ n z. lo (ended_region n.did n.region) (omega (arith, z))))
      (λ p lt. spread.placed p lt w)) in
      let g = grasp (is_taking q) in let k = lay (is_taking q) in let gu = grasp (uses_in q) in let ku =
      lay (uses_in q) in
      let c = through_caches (is_taking q) (λ d z. z) (λ d z. z) in let cu =
      through_caches (uses_in q) (out_light q) (in_light q) in
      let p = through_places (is_taking q) (λ o z. z) (λ d z. z) in let pu =
      through_places (uses_in q) (option_light q) (born_light q) in
      let e = side.balance in let m = side.most in let un = side.unused in
      let come = sum_add (weight_taken (uses_in q)) (weigh (to_place (is_taking q))) s.views in record {
        most = omega (arith, e, m);
        held = omega (arith, g, k, c, p, e);
        uses = λ lt. let kept = side.kept lt in omega (arith, gu, ku, cu, pu, un, come, kept);
      }

  -- each view pays for what it lays down
  pub all_held : (s : St) (r : IsSound stands l s) (q : RegionId)
      → All (Pays (weight_put_down (is_taking q)) (weight_taken (is_taking q)) (uses_gone q) (uses_come q)) s.views
  all_held s r q =
      All-weaker (IsView l.shape r.setting)
      (Pays (weight_put_down (is_taking q)) (weight_taken (is_taking q)) (uses_gone q) (uses_come q))
      (λ v fine. let k = fine.roots.held q in record { least = k.holds; settled = k.emptied }) s.views r.views

  -- a taking in hand is out, is in no cache and at no root place, and has as many uses as births name it
  pub record InHandFact (s : St) (q : RegionId) (v : SeatView) (out : ℕ) : Type 0 where
    pub out_once : out ≡ 1
    pub uses : uses_come q v ≡ uses_gone q v + sum_by (weigh (to_place (is_taking q))) s.views

  pub in_hand : (s : St) (r : IsSound stands l s) (id : ℕ) (v : SeatView) (q : RegionId) (out : ℕ)
      → get_elem? s.views id ≡ some v → Side s q out → HasTaking q v → InHandFact s q v out
  in_hand s r id v q out at side has =
      let sp = some_spread s r in let f = sums s r q out sp.0 sp.1 side sp.2 in
      let all = all_held s r q in let a : SeatView → ℕ = weight_put_down (is_taking q) in let b : SeatView
      → ℕ = weight_taken (is_taking q) in
      let less = one_less a b (uses_gone q) (uses_come q) s.views id v all at has in let held = f.held in let most =
      f.most in
      let one : out ≡ 1 = omega (arith, less, held, most) in
      let nc : cached stands l (is_taking q) sp.0 ≡ 0 = omega (arith, less, held, most) in
      let np : placed stands l (is_taking q) sp.1
      ≡ 0 = omega (arith, less, held, most) in
      let odd = one_odd a b (uses_gone q) (uses_come q) s.views id v all at has (omega (arith, held, most)) in
      let uc : cached stands l (uses_in q) sp.0
      ≡ 0 = sum_to_none (l.shape.lanes * 40) (λ i. sum_by (uses_in q) (sp.0 i).regions)
      (λ i lt. let z = sum_to_at (l.shape.lanes * 40) (λ i. sum_by (is_taking q) (sp.0 i).regions) i lt in
      sum_zero (is_taking q) (uses_in q) (uses_light q) (sp.0 i).regions (omega (arith, z, nc))) in
      let up : placed stands l (uses_in q) sp.1 ≡ 0 = sum_to_none (l.shape.lanes * l.shape.handles)
      (λ p. weight_or (uses_in q) (region_at (sp.1 p)))
      (λ p lt. let z = sum_to_at (l.shape.lanes * l.shape.handles)
      (λ p. weight_or (is_taking q) (region_at (sp.1 p))) p lt in
      option_light q (region_at (sp.1 p)) (omega (arith, z, np))) in
      let u = f.uses (omega (arith, one)) in record { out_once = one; uses = omega (arith, odd, u, uc, up) }

  -- no view has a taking in hand twice
  pub in_hand_once : (s : St) (r : IsSound stands l s) (id : ℕ) (v : SeatView) → get_elem? s.views id ≡ some v
      → (q : RegionId) → weight_taken (is_taking q) v ≤ weight_put_down (is_taking q) v + 1
  in_hand_once s r id v at q =
      let side = some_side s r q in let sp = some_spread s r in let f = sums s r q side.0 sp.0 sp.1 side.1 sp.2 in
      let held = f.held in let most = f.most in
      each_near (weight_put_down (is_taking q)) (weight_taken (is_taking q)) (uses_gone q) (uses_come q) s.views id v
      (all_held s r q) at (omega (arith, held, most))

  -- where caches and root places have it as often as it is out, no view has it
  pub in_no_hand : (s : St) (r : IsSound stands l s) (id : ℕ) (v : SeatView) (q : RegionId) (out : ℕ)
      (caches : ℕ → CacheState) (places : ℕ → RootPlace) → get_elem? s.views id ≡ some v → Side s q out
      → Spread stands l s caches places
      → out ≤ cached stands l (is_taking q) caches + placed stands l (is_taking q) places → IsPutDown q v
  in_no_hand s r id v q out caches places at side spread le =
      let f = sums s r q out caches places side spread in let held = f.held in
      let a : SeatView → ℕ = weight_put_down (is_taking q) in let b : SeatView → ℕ = weight_taken (is_taking q) in
      let same = each_even a b (uses_gone q) (uses_come q) s.views id v (all_held s r q) at (omega (arith, held, le)) in
      record {
        taking = same;
        uses = ((each_at (IsView l.shape r.setting) s.views id v r.views at).roots.held q).emptied
            same;
      }

  pub in_one_hold : (s : St) (r : IsSound stands l s) (q : RegionId) (fits : q.place.arena < l.shape.arenas)
      (arena : ArenaState) (caches : ℕ → ℕ → CacheState) (places : ℕ → RootPlace)
      → AreStates l.shape (λ o fits. (r.objects o fits).history) q.place.arena fits arena caches places
      → IsInOneHold l.shape s.views q arena caches places
  in_one_hold s r q fits arena caches places are =
      let f = sums s r q (sum_by (is_taking q) arena.out) (λ i. caches (i / 40) (i % 40)) places
      (arena_side s r q fits arena are.arena_is) (record {
        cached =
            λ i lt. let d : ℕ = i / 40 in let k : ℕ = i % 40 in let dl : d < l.shape.lanes = omega (arith, lt) in
            let kl : k < 40 = omega arith in let same : d * 40 + k ≡ i = omega arith in
            subst (λ (j : ℕ). CacheHas stands l s j (caches d k)) same
            (cache_has stands l s r d k (dl, kl) (caches d k) (are.caches_are d k (dl, kl)));
        placed = λ p lt. place_has stands l s r p lt (places p) (are.places_are p lt);
      }) in record { once = f.most; held = f.held; uses = f.uses }

  -- no two takings with one number are in two views' hands
  pub one_hand_at : (s : St) (r : IsSound stands l s) (q g : RegionId) (fits : q.place.arena < l.shape.arenas)
      → g.place.arena ≡ q.place.arena → g.taking ≡ q.taking → (i j : ℕ) (v u : SeatView) → i ≢ j
      → get_elem? s.views i ≡ some v → get_elem? s.views j ≡ some u → HasTaking q v → HasTaking g u → ⊥
  one_hand_at s r q g fits ea et i j v u ne at bt hv hu =
      let a : ℕ = q.place.arena in let h = (r.objects (Arena a) fits).history in let x =
      arena_there l.shape a h (r.objects (Arena a) fits).accepted in
      let law = arena_laws l.shape a h x.0 (r.objects (Arena a) fits).accepted x.1 in
      let first = (in_hand s r i v q (sum_by (is_taking q) x.0.out) at (arena_side s r q fits x.0 x.1) hv).out_once in
      let second : sum_by (is_taking g) x.0.out ≡ 1 = second_out s r q g fits ea j u bt hu x.0 x.1 in
      let same = one_taking q g ea et x.0.out (law.once q.taking) (omega (arith, first)) (omega (arith, second)) in
      let both = in_both s r q g same j u hu in
      let sp = some_spread s r in let f = sums s r q (sum_by (is_taking q) x.0.out) sp.0 sp.1
      (arena_side s r q fits x.0 x.1) sp.2 in let held = f.held in let most = f.most in
      let pay = All-weaker (IsView l.shape r.setting)
      (λ (y : SeatView). weight_put_down (is_taking q) y + 0 ≤ weight_taken (is_taking q) y + 0)
      (λ y fine. let k = (fine.roots.held q).holds in omega (arith, k)) s.views r.views in
      let two = strict_two (weight_put_down (is_taking q)) (λ (y : SeatView). 0) (weight_taken (is_taking q))
      (λ (y : SeatView). 0) s.views i j v u ne pay at bt (omega (arith, hv)) (omega (arith, both)) in
      let z : ℕ = sum_by (λ (y : SeatView). 0) s.views in let L : ℕ = sum_by (weight_put_down (is_taking q)) s.views in
      let G : ℕ = sum_by (weight_taken (is_taking q)) s.views in
      let two' : L + z + 2 ≤ G + z = two in omega (arith, two', held, most)
    where
      second_out : (s : St) (r : IsSound stands l s) (q g : RegionId) (fits : q.place.arena < l.shape.arenas)
          → g.place.arena ≡ q.place.arena → (j : ℕ) (u : SeatView) → get_elem? s.views j ≡ some u → HasTaking g u
          → (x : ArenaState) → IsArenaAfter l.shape q.place.arena (r.objects (Arena q.place.arena) fits).history x
          → sum_by (is_taking g) x.out ≡ 1
      second_out s r q g fits ea j u bt hu =
          subst (λ (a : ℕ). (fits : a < l.shape.arenas) (x : ArenaState)
          → IsArenaAfter l.shape a (r.objects (Arena a) fits).history x → sum_by (is_taking g) x.out ≡ 1) ea
          (λ fits x after. (in_hand s r j u g (sum_by (is_taking g) x.out) bt (arena_side s r g fits x after)
          hu).out_once) fits

      in_both : (s : St) (r : IsSound stands l s) (q g : RegionId) → same_taking q g ≡ true → (j : ℕ) (u : SeatView)
          → HasTaking g u → HasTaking q u
      in_both s r q g same j u hu = taking_key u q g same hu
