-- What all objects noted of a region.
use Rattle.step_law.specs.Settings.{Setting}
use Rattle.std.proofs.Common.{◌≡◌, ◌⊎◌, ℕ, ◌+◌, ◌*◌, ◌<◌, ◌≤◌, List, [], ◌∷◌, map, Bool, true, false, cond, eqb, sym, refl, ap, ◌∙◌, subst, inl, inr, ⊎_elim, arith, Some, None}
use Rattle.std.specs.Prelude.{Option, All, sum_by, ◌||◌}
use Rattle.std.specs.List.{list_any}
use Rattle.std.proofs.lemmas.List.Elements.{All-weaker}
use Rattle.std.proofs.lemmas.List.Sums.{sum_by-cons}
use Rattle.atomic_table.specs.Table.{State}
use Rattle.pool_law.specs.declared.run.Shape.{Shape}
use Rattle.pool_law.specs.declared.id.RegionId.{RegionId}
use Rattle.pool_law.specs.declared.note.Did.{Did}
use Rattle.pool_law.specs.declared.note.Did.TheVariants.{Take, Give, Hit, Kept, Shed, Birth, Grow}
use Rattle.pool_law.specs.declared.note.Noted.{Noted}
use Rattle.pool_law.specs.declared.note.Object.{Object}
use Rattle.pool_law.specs.declared.note.Object.TheVariants.{Arena, Cache, Root}
use Rattle.pool_law.specs.Homes.{home_of, IsObjectOf}
use Rattle.pool_law.specs.Same.{same_taking}
use Rattle.pool_law.specs.Caches.{Cache as CacheState}
use Rattle.pool_law.specs.Roots.{RootPlace}
use Rattle.history_laws.specs.Histories.{IsCacheAfter, IsPlaceAfter}
use Rattle.history_laws.specs.NoteCounts.{is_taking, uses_in, has_number, weight_or, arena_out, arena_in, cache_out, cache_in, place_out, place_in}
use Rattle.history_laws.proofs.Names.{same_taking-by}
use Rattle.history_laws.proofs.ArenaTakings.{of_taking, uses_light, numbered_so, fewer_taken}
use Rattle.history_laws.proofs.Regions.{cache_law, place_law}
use Rattle.pool_table.specs.declared.views.Entry.{Entry}
use Rattle.pool_table.specs.declared.views.Entry.TheVariants.{At, Ref, Busy}
use Rattle.pool_table.specs.declared.views.Layout.{Layout}
use Rattle.pool_table.specs.declared.views.Part.{Part}
use Rattle.pool_table.specs.declared.views.SeatView.{SeatView}
use Rattle.pool_table.specs.Views.{parts_of, object_view, noted_weight, noted_total}
use Rattle.pool_table.specs.Counts.{weigh}
use Rattle.pool_table.specs.Holders.{sum_to, region_at}
use Rattle.pool_table.specs.Sound.{IsKnown, IsSound, IsView, Stands}
use Rattle.pool_table.proofs.Partition.{sum_to_eq, sum_to_add, in_views, IsAmong}

abbrev pub roots_from : Shape → ℕ
roots_from s = s.arenas + s.lanes * 41

module _ (q : RegionId) where
  -- a note that moves nothing of the taking moves none of its uses
  pub given_light : (d : Did) → arena_in (is_taking q) d ≡ 0 → arena_in (uses_in q) d ≡ 0
  given_light (Give r) z = uses_light q r z
  given_light d z = refl

  pub taken_light : (d : Did) → arena_out (is_taking q) d ≡ 0 → arena_out (uses_in q) d ≡ 0
  taken_light (Take c r) z = uses_light q r z
  taken_light d z = refl

  pub out_light : (d : Did) → cache_out (is_taking q) d ≡ 0 → cache_out (uses_in q) d ≡ 0
  out_light (Hit r) z = uses_light q r z
  out_light (Shed r) z = uses_light q r z
  out_light d z = refl

  pub in_light : (d : Did) → cache_in (is_taking q) d ≡ 0 → cache_in (uses_in q) d ≡ 0
  in_light (Kept r) z = uses_light q r z
  in_light d z = refl

  pub born_light : (d : Did) → place_in (is_taking q) d ≡ 0 → place_in (uses_in q) d ≡ 0
  born_light (Birth r x) z = uses_light q x z
  born_light (Grow c x) z = uses_light q x z
  born_light d z = refl

  pub option_light : (o : Option RegionId) → weight_or (is_taking q) o ≡ 0 → weight_or (uses_in q) o ≡ 0
  option_light (Some r) z = uses_light q r z
  option_light None z = refl

-- of two takings with one number, of which a list has one of each, where it has one with that number at most

pub one_taking : (q g : RegionId) → g.place.arena ≡ q.place.arena → g.taking ≡ q.taking → (rs : List RegionId)
    → sum_by (has_number q.place.arena q.taking) rs ≤ 1 → 0 < sum_by (is_taking q) rs → 0 < sum_by (is_taking g) rs
    → same_taking q g ≡ true
one_taking q g ea et [] most a b = absurd (omega (arith, a))
one_taking q g ea et (x ∷ rs) most a b =
    let p = sum_by-cons (has_number q.place.arena q.taking) x rs in let u = sum_by-cons (is_taking q) x rs in let w =
    sum_by-cons (is_taking g) x rs in
    let n = numbered_so q x in
    let m : is_taking g x ≤ has_number q.place.arena q.taking x =
    subst (λ (y : ℕ × ℕ). is_taking g x ≤ has_number y.0 y.1 x) (λ i. (ea i, et i)) (numbered_so g x) in
    let f = fewer_taken q rs in
    let h : sum_by (is_taking g) rs ≤ sum_by (has_number q.place.arena q.taking) rs =
    subst (λ (y : ℕ × ℕ). sum_by (is_taking g) rs ≤ sum_by (has_number y.0 y.1) rs) (λ i. (ea i, et i))
    (fewer_taken g rs) in
    by (λ most a b. one_taking q g ea et rs most a b) p u w n m f h (of_taking q x) (of_taking g x)
  where
    by : (sum_by (has_number q.place.arena q.taking) rs ≤ 1 → 0 < sum_by (is_taking q) rs → 0 < sum_by (is_taking g) rs
        → same_taking q g ≡ true) →
        sum_by (has_number q.place.arena q.taking) (x ∷ rs)
        ≡ has_number q.place.arena q.taking x + sum_by (has_number q.place.arena q.taking) rs →
        sum_by (is_taking q) (x ∷ rs) ≡ is_taking q x + sum_by (is_taking q) rs
        → sum_by (is_taking g) (x ∷ rs) ≡ is_taking g x + sum_by (is_taking g) rs →
        is_taking q x ≤ has_number q.place.arena q.taking x → is_taking g x ≤ has_number q.place.arena q.taking x →
        sum_by (is_taking q) rs ≤ sum_by (has_number q.place.arena q.taking) rs
        → sum_by (is_taking g) rs ≤ sum_by (has_number q.place.arena q.taking) rs →
        ((is_taking q x ≡ 1) × (uses_in q x ≡ x.uses) × (same_taking q x ≡ true))
        ⊎ ((is_taking q x ≡ 0) × (uses_in q x ≡ 0)) →
        ((is_taking g x ≡ 1) × (uses_in g x ≡ x.uses) × (same_taking g x ≡ true))
        ⊎ ((is_taking g x ≡ 0) × (uses_in g x ≡ 0)) → same_taking q g ≡ true
    by more p u w n m f h (inl s) (inl t) = same_taking-by q g x s.2 t.2
    by more p u w n m f h (inl s) (inr t) =
        let s0 = s.0 in let t0 = t.0 in absurd (omega (arith, p, w, n, h, s0, t0, most, b))
    by more p u w n m f h (inr s) (inl t) =
        let s0 = s.0 in let t0 = t.0 in absurd (omega (arith, p, u, m, f, s0, t0, most, a))
    by more p u w n m f h (inr s) (inr t) =
        let s0 = s.0 in let t0 = t.0 in
        more (omega (arith, p, most)) (omega (arith, u, s0, a)) (omega (arith, w, t0, b))

-- what is in a list some time is in it
pub is_in_list : (q : RegionId) (rs : List RegionId) → 0 < sum_by (is_taking q) rs
    → list_any (λ o. same_taking q o) rs ≡ true
is_in_list q [] lt = absurd (omega (arith, lt))
is_in_list q (x ∷ rs) lt = by (same_taking q x) refl (sum_by-cons (is_taking q) x rs) (λ lt. is_in_list q rs lt)
  where
    by : (b : Bool) → same_taking q x ≡ b → sum_by (is_taking q) (x ∷ rs) ≡ is_taking q x + sum_by (is_taking q) rs
        → (0 < sum_by (is_taking q) rs → list_any (λ o. same_taking q o) rs ≡ true)
        → (b || list_any (λ o. same_taking q o) rs) ≡ true
    by true e c more = refl
    by false e c more =
        let z : is_taking q x ≡ 0 = ap (λ (b : Bool). cond {A = ℕ} b 1 0) e in more (omega (arith, c, z, lt))

module _ {H : Type 0} (stands : List ℕ → Setting → List Noted → H → Type 0) (l : Layout) where
  abbrev St : Type 0
  St = State (Option H) SeatView

  abbrev pub Among : ℕ → ℕ → (Noted → ℕ) → Type 0
  Among base n w = (lane : Option ℕ) (e : Entry) → Stands l.shape lane e → IsAmong l.shape base n w e

  pub all_among : (s : St) (r : IsSound stands l s) (base n : ℕ) (w : Noted → ℕ) → Among base n w
      → All (λ (v : SeatView). All (λ (q : Part). All (IsAmong l.shape base n w) q.notes) (parts_of v)) s.views
  all_among s r base n w among =
      All-weaker (IsView l.shape r.setting)
      (λ (v : SeatView). All (λ (q : Part). All (IsAmong l.shape base n w) q.notes) (parts_of v))
      (λ v fine. All-weaker (λ (q : Part). All (Stands l.shape q.number) q.notes)
      (λ (q : Part). All (IsAmong l.shape base n w) q.notes)
      (λ q st. All-weaker (Stands l.shape q.number) (IsAmong l.shape base n w) (among q.number) q.notes st) (parts_of v)
      fine.notes) s.views r.views

  -- notes of one object alone weigh in all views what they weigh in its history
  pub object_notes : (s : St) (r : IsSound stands l s) (o : Object) (fits : IsObjectOf l.shape o) (w : Noted → ℕ)
      → Among (home_of l.shape o) 1 w → sum_by (weigh (noted_weight w)) s.views ≡ sum_by w (r.objects o fits).history
  object_notes s r o fits w among =
      let b : ℕ = home_of l.shape o in let a = in_views l.shape b 1 w s.views (all_among s r b 1 w among) in let k =
      (r.objects o fits).weights w in let z : b + 0 ≡ b = omega arith in
      let one : sum_to 1 (λ i. noted_total w (map (object_view l.shape (b + i)) s.views))
      ≡ noted_total w (map (object_view l.shape (b + 0)) s.views) = omega arith in
      sym a ∙ (one ∙ (ap (λ (j : ℕ). noted_total w (map (object_view l.shape j) s.views)) z ∙ k))

  -- notes of a row of objects, where each got what it gave and has
  pub row_notes : (s : St) (r : IsSound stands l s) (base n : ℕ) (w x : Noted → ℕ) (has : ℕ → ℕ) → Among base n w
      → Among base n x
      → ((i : ℕ) → i < n → noted_total w (map (object_view l.shape (base + i)) s.views)
      ≡ noted_total x (map (object_view l.shape (base + i)) s.views) + has i)
      → sum_by (weigh (noted_weight w)) s.views ≡ sum_by (weigh (noted_weight x)) s.views + sum_to n has
  row_notes s r base n w x has aw ax each =
      let f : ℕ → ℕ = λ i. noted_total x (map (object_view l.shape (base + i)) s.views) in
      let a = in_views l.shape base n w s.views (all_among s r base n w aw) in let b =
      in_views l.shape base n x s.views (all_among s r base n x ax) in
      let c = sum_to_eq n (λ i. noted_total w (map (object_view l.shape (base + i)) s.views)) (λ i. f i + has i) each in
      let d = sum_to_add n f has in
      omega (arith, a, b, c, d)

  pub among_arena : (q : RegionId) (w : Noted → ℕ)
      → ((n : Noted) → arena_out (is_taking q) n.did + arena_in (is_taking q) n.did ≡ 0 → w n ≡ 0)
      → Among (home_of l.shape (Arena q.place.arena)) 1 w
  among_arena q w bound lane (At o k n) st = ⊎_elim
      (λ (z : arena_out (is_taking q) n.did + arena_in (is_taking q) n.did ≡ 0). inl (bound n z))
      (λ (e : o ≡ Arena q.place.arena). inr (
        0,
        (let g : 0 < 1 = omega arith in g),
        (λ i. let b : ℕ = home_of l.shape (Arena q.place.arena) in let z : b
            ≡ b + 0 =
            omega arith in ap (λ (x : Object). eqb (home_of l.shape x) i) e ∙ ap (λ (x : ℕ). eqb x i) z),
      ))
      (st.in_place.regioned q).arena
  among_arena q w bound lane (Ref p d) st = inl refl
  among_arena q w bound lane (Busy b) st = inl refl

  -- of an arena that isn't one of the shape's there are no notes
  pub among_none : (q : RegionId) (w : Noted → ℕ) → (q.place.arena < l.shape.arenas → ⊥)
      → ((n : Noted) → arena_out (is_taking q) n.did + arena_in (is_taking q) n.did ≡ 0 → w n ≡ 0) → Among 0 0 w
  among_none q w none bound lane (At o k n) st = ⊎_elim
      (λ (z : arena_out (is_taking q) n.did + arena_in (is_taking q) n.did ≡ 0). inl (bound n z))
      (λ (e : o ≡ Arena q.place.arena). let fits : q.place.arena < l.shape.arenas =
      subst (IsKnown l.shape) e st.object in absurd (none fits))
      (st.in_place.regioned q).arena
  among_none q w none bound lane (Ref p d) st = inl refl
  among_none q w none bound lane (Busy b) st = inl refl

  pub among_caches : (q : RegionId) (w : Noted → ℕ)
      → ((n : Noted) → cache_out (is_taking q) n.did + cache_in (is_taking q) n.did ≡ 0 → w n ≡ 0)
      → Among l.shape.arenas (l.shape.lanes * 40) w
  among_caches q w bound lane (At o k n) st = ⊎_elim
      (λ (z : cache_out (is_taking q) n.did + cache_in (is_taking q) n.did ≡ 0). inl (bound n z))
      (λ (e : (d : ℕ) × (c : ℕ) × (o ≡ Cache d c)). let fits : IsObjectOf l.shape (Cache e.0 e.1) =
      subst (IsKnown l.shape) e.2 st.object in let f0 = fits.0 in let f1 = fits.1 in
      inr (
        e.0 * 40 + e.1,
        (let g : e.0 * 40 + e.1 < l.shape.lanes * 40 = omega (arith, f0, f1) in g),
        (λ i. let z : l.shape.arenas + e.0 * 40 + e.1
            ≡ l.shape.arenas + (e.0 * 40 + e.1) =
            omega arith in ap (λ (x : Object). eqb (home_of l.shape x) i) e.2 ∙ ap (λ (x : ℕ). eqb x i) z),
      ))
      (st.in_place.regioned q).cache
  among_caches q w bound lane (Ref p d) st = inl refl
  among_caches q w bound lane (Busy b) st = inl refl

  pub among_places : (q : RegionId) (w : Noted → ℕ)
      → ((n : Noted) → place_out (is_taking q) n + place_in (is_taking q) n.did ≡ 0 → w n ≡ 0)
      → Among (roots_from l.shape) (l.shape.lanes * l.shape.handles) w
  among_places q w bound lane (At o k n) st = ⊎_elim
      (λ (z : place_out (is_taking q) n + place_in (is_taking q) n.did ≡ 0). inl (bound n z))
      (λ (e : (p : ℕ) × (o ≡ Root p)). let fits : IsObjectOf l.shape (Root e.0) =
      subst (IsKnown l.shape) e.1 st.object in
      inr (e.0, fits, (λ i. ap (λ (x : Object). eqb (home_of l.shape x) i) e.1)))
      (st.in_place.regioned q).place
  among_places q w bound lane (Ref p d) st = inl refl
  among_places q w bound lane (Busy b) st = inl refl

  -- the cache with the i-th home of all caches got what it gave and has, by each weight
  abbrev pub CacheHas : St → ℕ → CacheState → Type 0
  CacheHas s i x =
      (w : RegionId → ℕ) → noted_total (λ (n : Noted). cache_in w n.did)
      (map (object_view l.shape (l.shape.arenas + i)) s.views)
      ≡ noted_total (λ (n : Noted). cache_out w n.did) (map (object_view l.shape (l.shape.arenas + i)) s.views)
      + sum_by w x.regions

  abbrev pub PlaceHas : St → ℕ → RootPlace → Type 0
  PlaceHas s p x =
      (w : RegionId → ℕ) → noted_total (λ (n : Noted). place_in w n.did)
      (map (object_view l.shape (roots_from l.shape + p)) s.views)
      ≡ noted_total (place_out w) (map (object_view l.shape (roots_from l.shape + p)) s.views) + weight_or w
      (region_at x)

  pub cache_has : (s : St) (r : IsSound stands l s) (d c : ℕ) (fits : IsObjectOf l.shape (Cache d c)) (x : CacheState)
      → IsCacheAfter d c (r.objects (Cache d c) fits).history x → CacheHas s (d * 40 + c) x
  cache_has s r d c fits x after w =
      let k = r.objects (Cache d c) fits in let home : home_of l.shape (Cache d c)
      ≡ l.shape.arenas + (d * 40 + c) = omega arith in
      let a = k.weights (λ (n : Noted). cache_in w n.did) in let b = k.weights (λ (n : Noted). cache_out w n.did) in
      let g = cache_law l.shape w d c k.history x k.accepted after in
      subst (λ (j : ℕ). noted_total (λ (n : Noted). cache_in w n.did) (map (object_view l.shape j) s.views)
      ≡ noted_total (λ (n : Noted). cache_out w n.did) (map (object_view l.shape j) s.views) + sum_by w x.regions) home
      (omega (arith, a, b, g))

  pub place_has : (s : St) (r : IsSound stands l s) (p : ℕ) (fits : IsObjectOf l.shape (Root p)) (x : RootPlace)
      → IsPlaceAfter p (r.objects (Root p) fits).history x → PlaceHas s p x
  place_has s r p fits x after w =
      let k = r.objects (Root p) fits in
      let a = k.weights (λ (n : Noted). place_in w n.did) in let b = k.weights (place_out w) in let g =
      place_law l.shape w p k.history x k.accepted after in
      omega (arith, a, b, g)

  -- where a taking is, in all caches and at all root places
  pub record Spread (s : St) (caches : ℕ → CacheState) (places : ℕ → RootPlace) : Type 0 where
    pub cached : (i : ℕ) → i < l.shape.lanes * 40 → CacheHas s i (caches i)
    pub placed : (p : ℕ) → p < l.shape.lanes * l.shape.handles → PlaceHas s p (places p)

  abbrev pub cached : (RegionId → ℕ) → (ℕ → CacheState) → ℕ
  cached w caches = sum_to (l.shape.lanes * 40) (λ i. sum_by w (caches i).regions)

  abbrev pub placed : (RegionId → ℕ) → (ℕ → RootPlace) → ℕ
  placed w places = sum_to (l.shape.lanes * l.shape.handles) (λ p. weight_or w (region_at (places p)))
