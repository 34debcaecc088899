-- What the caches and root places of a closed table have is out of its arenas.
use Rattle.std.proofs.Common.{◌≡◌, ◌≢◌, ℕ, suc, ◌+◌, ◌-◌, ◌*◌, ◌/◌, ◌%◌, ◌<◌, ◌≤◌, List, [], ◌∷◌, length, sym, refl, ap, ◌∙◌, subst, arith, Some}
use Rattle.std.specs.Prelude.{Option, All, sum_by, slice_get}
use Rattle.std.proofs.lemmas.List.Sums.{sum_by-cons}
use Rattle.std.proofs.lemmas.Option.{slice_get_within}
use mathlib.Core.Logic.{dite}
use native.Mathlib.Decide.{dec_le}
use Rattle.step_law.specs.Settings.{Setting}
use Rattle.size_classes.specs.Sizes.{IsPage}
use Rattle.pool_law.specs.declared.id.RegionId.{RegionId}
use Rattle.pool_law.specs.declared.note.Noted.{Noted}
use Rattle.pool_law.specs.declared.note.Object.{Object}
use Rattle.pool_law.specs.declared.note.Object.TheVariants.{Arena as ArenaOf, Cache as CacheOf, Bin as BinOf, Root as RootOf}
use Rattle.pool_law.specs.declared.run.Shape.{Shape}
use Rattle.pool_law.specs.Arenas.{Arena as ArenaLaw, new_arena}
use Rattle.pool_law.specs.Caches.{Cache as CacheState}
use Rattle.pool_law.specs.Histories.{arena_after}
use Rattle.pool_law.specs.Homes.{home_of, objects_of, IsObjectOf}
use Rattle.pool_law.specs.Logs.{dids, history_of}
use Rattle.pool_law.specs.NotedHistories.{noted_dids}
use Rattle.pool_law.specs.Places.{IsInPlace}
use Rattle.pool_law.specs.Roots.{RootPlace}
use Rattle.history_laws.specs.Histories.{IsArenaAfter, IsCacheAfter, IsPlaceAfter}
use Rattle.history_laws.specs.Measures.{measures_of}
use Rattle.history_laws.specs.NoteCounts.{is_taking, weight_or}
use Rattle.pool_table.specs.declared.views.Layout.{Layout}
use Rattle.pool_table.specs.declared.views.SeatView.{SeatView}
use Rattle.pool_table.specs.Closed.{IsClosed}
use Rattle.pool_table.specs.Hands.{weight_taken, weight_put_down, HasTaking}
use Rattle.pool_table.specs.Holders.{sum_to, region_at, in_caches, at_places}
use Rattle.pool_table.specs.Views.{parts_of}
use Rattle.pool_table.proofs.Partition.{sum_to_eq, sum_to_none}
use Rattle.arena_laws.specs.Slots.{ArenaHolds}
use Rattle.arena_laws.proofs.ArenaLaw.{new-holds, after-holds}
use Rattle.arena_laws.proofs.CoveredSteps.{new-covered}
use Rattle.arena_laws.proofs.CoveredLaw.{after-covered}
use Rattle.pool_arena.specs.ArenaStates.{ArenaState, law_of}
use Rattle.region_cache.specs.Queues.{Queue, cache_of}
use Rattle.shared_pool.specs.Closing.{AreLanes, logs_in}
use Rattle.shared_pool.specs.Emptying.{Left, left_at, left_of, IsOutside, IsArenaWith, AreOut}
use Rattle.shared_pool.specs.Standing.{HomeStands}
use Rattle.shared_pool.specs.declared.home.Home.{Home}
use Rattle.shared_pool.specs.declared.home.Home.TheVariants.{Arena, Cache, Bin, Root}
use Rattle.shared_pool.proofs.ArenaHomes.{as_told}
use Rattle.shared_pool.proofs.CacheHomes.{cache_has}
use Rattle.shared_pool.proofs.ClosingWhole.{dids_at}
use Rattle.shared_pool.proofs.LastChunks.{Stood, stood}
use Rattle.shared_pool.proofs.PlaceHomes.{place_at}
use Rattle.shared_pool.proofs.EmptyStart.{split, weighs, by_place, names, present, cache_in, place_in, quiet, lies, on_ground, each_left, out_after}

-- ---- Which object stands at a place.

module _ (s : Shape) where
  cache_there : (i : ℕ) → i < s.lanes * 40 → IsObjectOf s (CacheOf (i / 40) (i % 40))
      × (home_of s (CacheOf (i / 40) (i % 40)) ≡ s.arenas + i)
  cache_there i lt = ((omega (arith, lt), omega arith), omega arith)

  -- a bin
  record IsBetween (i : ℕ) : Type 0 where
    pub object : Object
    pub fits : IsObjectOf s object
    pub here : home_of s object ≡ i
    pub kind : ℕ
    pub more : List ℕ
    pub measures : measures_of s object ≡ kind ∷ more
    pub no_cache : kind ≢ 1
    pub no_place : kind ≢ 4

  between : (j : ℕ) → j < s.lanes → IsBetween (s.arenas + (s.lanes * 40 + j))
  between j lt = record {
    object = BinOf j;
    fits = lt;
    here = (let g : s.arenas + s.lanes * 40 + j ≡ s.arenas + (s.lanes * 40 + j) = omega arith in g);
    kind = 2;
    more = j ∷ s.handles ∷ [];
    measures = refl;
    no_cache = λ e. absurd (omega (arith, e));
    no_place = λ e. absurd (omega (arith, e));
  }

  -- any object
  record IsThere (i : ℕ) : Type 0 where
    pub object : Object
    pub fits : IsObjectOf s object
    pub here : home_of s object ≡ i

  there : (i : ℕ) → i < objects_of s → IsThere i
  there i lt = dite (dec_le (suc i) s.arenas)
      (λ le. record { object = ArenaOf i; fits = le; here = refl })
      (λ gt. let a : ℕ = s.arenas in dite (dec_le (suc (i - a)) (s.lanes * 40))
      (λ le. let t = cache_there (i - a) le in record
      { object = CacheOf ((i - a) / 40) ((i - a) % 40); fits = t.0; here = (let e = t.1 in omega (arith, e, gt)) })
      (λ past. let y : ℕ = s.lanes * s.handles in
      let lt' : i < a + s.lanes * 41 + y = lt in
      let j : ℕ = i - (a + s.lanes * 40) in
      dite (dec_le (suc j) s.lanes)
      (λ le. let t = between j le in record
      { object = t.object; fits = t.fits; here = (let e = t.here in omega (arith, e, gt, past)) })
      (λ far. let p : ℕ = j - s.lanes in
      record {
        object = RootOf p;
        fits = (let g : p < y = omega (arith, lt', gt, past, far) in g);
        here = (let g : a + s.lanes * 41 + p ≡ i = omega (arith, lt', gt, past, far) in g);
      })))

-- ---- The home values of a closed table.

module _ (l : Layout) (v : SeatView) (homes : List (Option Home)) (words : List ℕ)
    (closed : IsClosed HomeStands l v homes words) (lanes : AreLanes l.shape (parts_of v)) (setting : Setting)
    (known : v.setting ≡ Some setting) (page : IsPage l.shape.page) where
  abbrev s : Shape
  s = l.shape

  abbrev told : (o : Object) → IsObjectOf s o → List Noted
  told o fits = (closed.objects o fits).history

  here : (o : Object) (fits : IsObjectOf s o) → Stood l v homes words closed lanes setting known o fits
  here o fits = stood l v homes words closed lanes setting known o fits

  -- what is out of the arena of a number
  abbrev out : ℕ → List RegionId
  out k = out_after (arena_after s k (dids (history_of (ArenaOf k) (logs_in (parts_of v)))))

  record IsArenaThere (k : ℕ) (fits : k < s.arenas) (x : Home) : Type 0 where
    pub is : IsArenaWith setting.grounds k (out k) (Some (Some x))
    pub law : ArenaLaw
    pub after : IsArenaAfter s k (told (ArenaOf k) fits) law
    pub out_is : out k ≡ law.out

  arena_there : (k : ℕ) (fits : k < s.arenas) (x : Home)
      → HomeStands (measures_of s (ArenaOf k)) setting (told (ArenaOf k) fits) x → IsArenaThere k fits x
  arena_there k fits (Arena a) at =
      let state : ArenaState = a.value in let law : ArenaLaw = law_of state at.stands.out in let h : List Noted =
      told (ArenaOf k) fits in
      let number_is : k ≡ state.number = cc at.measured in
      let page_is : s.page ≡ state.geometry.page = cc at.measured in
      let first : ArenaLaw = new_arena state.geometry (length state.chunks) in
      let holds : ArenaHolds state.geometry state.number first =
      new-holds state.geometry state.number (subst IsPage page_is page) (length state.chunks) in
      let after : IsArenaAfter s k h law = as_told s setting k h state at in
      let out_is : out k ≡ at.stands.out = ap out_after
      (ap (arena_after s k) (dids_at HomeStands l v homes words closed lanes (ArenaOf k) fits) ∙ after) in
      record {
        is = subst (λ (xs : List RegionId). IsOutside setting.grounds k xs state) (sym out_is) (record {
          number_is = sym number_is;
          on = at.stands.on;
          holds = after-holds state.geometry state.number (noted_dids h) first law holds at.stands.told;
          covered =
              after-covered state.geometry state.number (noted_dids h) first law holds
              (new-covered state.geometry (length state.chunks)) at.stands.told;
        });
        law = law;
        after = after;
        out_is = out_is;
      }
  arena_there k fits (Cache q) at = absurd (cc at.measured)
  arena_there k fits (Bin b) at = absurd (cc at.measured)
  arena_there k fits (Root r) at = absurd (cc at.measured)

  -- the law's caches and root places
  abbrev caches : ℕ → ℕ → CacheState
  caches d c = cache_in (slice_get homes (home_of s (CacheOf d c)))

  abbrev places : ℕ → RootPlace
  places p = place_in (slice_get homes (home_of s (RootOf p)))

  cache_is : (d c : ℕ) (fits : IsObjectOf s (CacheOf d c)) (x : Home)
      → HomeStands (measures_of s (CacheOf d c)) setting (told (CacheOf d c) fits) x →
      IsCacheAfter d c (told (CacheOf d c) fits) (cache_in (Some (Some x)))
      × ((w : RegionId → ℕ) → weighs w (Some (Some x)) ≡ sum_by w (cache_in (Some (Some x))).regions)
  cache_is d c fits (Cache q) at = (
    cache_has s setting d c (told (CacheOf d c) fits) (Cache q)
        (λ (y : Queue). IsCacheAfter d c (told (CacheOf d c) fits) (cache_of y)) at tt
        (λ y z after same. subst (λ (x : CacheState). IsCacheAfter d c (told (CacheOf d c) fits) x) same after)
        (closed.objects (CacheOf d c) fits).accepted,
    λ w. names w q.value.regions,
  )
  cache_is d c fits (Arena a) at = absurd (cc at.measured)
  cache_is d c fits (Bin b) at = absurd (cc at.measured)
  cache_is d c fits (Root r) at = absurd (cc at.measured)

  place_is : (p : ℕ) (fits : IsObjectOf s (RootOf p)) (x : Home)
      → HomeStands (measures_of s (RootOf p)) setting (told (RootOf p) fits) x →
      IsPlaceAfter p (told (RootOf p) fits) (place_in (Some (Some x)))
      × ((w : RegionId → ℕ) → weighs w (Some (Some x)) ≡ weight_or w (region_at (place_in (Some (Some x)))))
  place_is p fits (Root r) at =
      ((place_at s setting p (told (RootOf p) fits) (Root r) at).told, λ w. present w r.value.present)
  place_is p fits (Arena a) at = absurd (cc at.measured)
  place_is p fits (Bin b) at = absurd (cc at.measured)
  place_is p fits (Cache q) at = absurd (cc at.measured)

  caches_are : (d c : ℕ) (fits : IsObjectOf s (CacheOf d c)) → IsCacheAfter d c (told (CacheOf d c) fits) (caches d c)
  caches_are d c fits =
      let t = here (CacheOf d c) fits in
      subst (λ (x : Option (Option Home)). IsCacheAfter d c (told (CacheOf d c) fits) (cache_in x)) (sym t.here)
      (cache_is d c fits t.value t.stands).0

  places_are : (p : ℕ) (fits : IsObjectOf s (RootOf p)) → IsPlaceAfter p (told (RootOf p) fits) (places p)
  places_are p fits =
      let t = here (RootOf p) fits in
      subst (λ (x : Option (Option Home)). IsPlaceAfter p (told (RootOf p) fits) (place_in x)) (sym t.here)
      (place_is p fits t.value t.stands).0

  -- what is left is in the caches and at the root places
  module _ (w : RegionId → ℕ) where
    abbrev at : ℕ → ℕ
    at i = weighs w (slice_get homes i)

    at_arena : (k : ℕ) → k < s.arenas → at k ≡ 0
    at_arena k lt = let t = here (ArenaOf k) lt in
        ap (weighs w) t.here ∙ ap (λ (xs : List Left). sum_by (λ (y : Left). w y.0) xs)
        (quiet 0 (k ∷ s.order ∷ s.page ∷ s.chunks ∷ []) setting (told (ArenaOf k) lt) t.value
        (λ e. absurd (omega (arith, e))) (λ e. absurd (omega (arith, e))) t.stands)

    at_cache : (i : ℕ) → i < s.lanes * 40 → at (s.arenas + i) ≡ sum_by w (caches (i / 40) (i % 40)).regions
    at_cache i lt =
        let c = cache_there s i lt in let t = here (CacheOf (i / 40) (i % 40)) c.0 in
        ap at (sym c.1) ∙ ap (weighs w) t.here ∙ (cache_is (i / 40) (i % 40) c.0 t.value t.stands).1 w
        ∙ ap (λ (x : Option (Option Home)). sum_by w (cache_in x).regions) (sym t.here)

    at_between : (j : ℕ) → j < s.lanes → at (s.arenas + (s.lanes * 40 + j)) ≡ 0
    at_between j lt =
        let b = between s j lt in let t = here b.object b.fits in
        ap at (sym b.here) ∙ ap (weighs w) t.here
        ∙ ap (λ (xs : List Left). sum_by (λ (y : Left). w y.0) xs)
        (quiet b.kind b.more setting (told b.object b.fits) t.value b.no_cache b.no_place
        (subst (λ (ms : List ℕ). HomeStands ms setting (told b.object b.fits) t.value) b.measures t.stands))

    at_place : (p : ℕ) → p < s.lanes * s.handles → at (s.arenas + (s.lanes * 40 + (s.lanes + p)))
        ≡ weight_or w (region_at (places p))
    at_place p lt =
        let t = here (RootOf p) lt in
        let e : s.arenas + (s.lanes * 40 + (s.lanes + p)) ≡ s.arenas + s.lanes * 41 + p = omega arith in
        ap at e ∙ ap (weighs w) t.here ∙ (place_is p lt t.value t.stands).1 w
        ∙ ap (λ (y : Option (Option Home)). weight_or w (region_at (place_in y))) (sym t.here)

    total : sum_by (λ (y : Left). w y.0) (left_of homes) ≡ in_caches s w caches + at_places s w places
    total =
        let y : ℕ = s.lanes * s.handles in
        let many : length homes ≡ s.arenas + s.lanes * 41 + y = closed.home_count in
        let e : length homes ≡ s.arenas + (s.lanes * 40 + (s.lanes + y)) = omega (arith, many) in
        let all = by_place w homes ∙ ap (λ (n : ℕ). sum_to n at) e in
        let one = split s.arenas (s.lanes * 40 + (s.lanes + y)) at in
        let two = split (s.lanes * 40) (s.lanes + y) (λ i. at (s.arenas + i)) in
        let three = split s.lanes y (λ j. at (s.arenas + (s.lanes * 40 + j))) in
        let arenas = sum_to_none s.arenas at at_arena in
        let queues = sum_to_eq (s.lanes * 40) (λ i. at (s.arenas + i))
        (λ i. sum_by w (caches (i / 40) (i % 40)).regions) at_cache in
        let others = sum_to_none s.lanes (λ j. at (s.arenas + (s.lanes * 40 + j))) at_between in
        let roots = sum_to_eq y (λ p. at (s.arenas + (s.lanes * 40 + (s.lanes + p))))
        (λ p. weight_or w (region_at (places p))) at_place in
        omega (arith, all, one, two, three, arenas, queues, others, roots)

  -- where nothing is in hand, that is what is out of the arenas
  module _ (many : length setting.grounds ≡ s.arenas) (nothing : (q : RegionId) → HasTaking q v → ⊥) where
    hold : (q : RegionId) (fits : q.place.arena < s.arenas)
        → (sum_by (is_taking q) (out q.place.arena) ≤ 1)
        × (sum_by (λ (x : Left). is_taking q x.0) (left_of homes) ≡ sum_by (is_taking q) (out q.place.arena))
    hold q fits =
        let k : ℕ = q.place.arena in let t = here (ArenaOf k) fits in let a = arena_there k fits t.value t.stands in
        let one = closed.takings q fits a.law caches places
        (record { arena_is = a.after; caches_are = caches_are; places_are = places_are }) in
        let same = ap (λ (xs : List RegionId). sum_by (is_taking q) xs) a.out_is in let once = one.once in
        let held = one.held in let g = sum_by-cons (weight_taken (is_taking q)) v [] in let d =
        sum_by-cons (weight_put_down (is_taking q)) v [] in
        let le = (closed.view.roots.held q).holds in let x : ℕ = weight_put_down (is_taking q) v in let y : ℕ =
        weight_taken (is_taking q) v in
        let ge : y ≤ x = dite (dec_le y x) (λ le. le)
        (λ gt. absurd (nothing q (let z : x < y = omega (arith, gt) in z))) in
        let sum = total (is_taking q) in
        (omega (arith, same, once), omega (arith, same, held, g, d, le, ge, sum))

    pub are_out : AreOut s.arenas homes (left_of homes)
    are_out = record {
      grounds = setting.grounds;
      out = out;
      arena =
          λ k lt. let t =
          here (ArenaOf k) lt in subst (λ (x : Option (Option Home)). IsArenaWith setting.grounds k (out k) x)
          (sym t.here) (arena_there k lt t.value t.stands).is;
      once = λ q lt. (hold q lt).0;
      left_is = λ q lt. (hold q lt).1;
      placed =
          each_left (λ (x : Left). (x.0.place.arena < s.arenas) × IsInPlace setting.grounds x.0.place x.1) homes
          placed_at;
    }
      where
        placed_at : (i : ℕ) (x : Option Home) → slice_get homes i ≡ Some x
            → All (λ (x : Left). (x.0.place.arena < s.arenas) × IsInPlace setting.grounds x.0.place x.1) (left_at x)
        placed_at i x is =
            let o = there s i (subst (λ (n : ℕ). i < n) closed.home_count (slice_get_within homes i x is)) in
            let t = here o.object o.fits in
            let same : x ≡ Some t.value = cc (is, t.here, ap (λ (k : ℕ). slice_get homes k) o.here) in
            subst (λ (y : Option Home). All
            (λ (x : Left). (x.0.place.arena < s.arenas) × IsInPlace setting.grounds x.0.place x.1) (left_at y))
            (sym same)
            (λ k d lt. let p = lies setting (measures_of s o.object) (told o.object o.fits) t.value t.stands k d lt in
            (let b = on_ground setting.grounds _ _ p in omega (arith, b, many), p))
