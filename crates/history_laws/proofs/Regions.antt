-- What came to a cache or a root place left it or is there, and what a note that follows takes up.
use Rattle.std.proofs.Common.{◌≡◌, ℕ, ◌+◌, ◌<◌, ◌≤◌, List, [], ◌∷◌, ◌++◌, true, sym, refl, ap, ◌∙◌, subst, ⊎_elim, arith, Some, None}
use Rattle.std.specs.Prelude.{sum_by, Option, option_map}
use Rattle.std.proofs.lemmas.List.Sums.{sum_by-cons, sum_by_push}
use Rattle.pool_law.specs.declared.run.Shape.{Shape}
use Rattle.pool_law.specs.declared.id.RegionId.{RegionId}
use Rattle.pool_law.specs.declared.note.Did.{Did}
use Rattle.pool_law.specs.declared.note.Did.TheVariants.{Take, Full, Give, Hit, Miss, Kept, Back, Trim, Close, Shed, Birth, Set, Get, Touch, Room, Extend, Grow, End}
use Rattle.pool_law.specs.declared.note.Object.TheVariants.{Arena, Cache, Root}
use Rattle.pool_law.specs.declared.note.Noted.{Noted}
use Rattle.pool_law.specs.Same.{same_taking}
use Rattle.pool_law.specs.Arenas.{Arena as ArenaState}
use Rattle.pool_law.specs.Caches.{Cache as CacheState, new_cache}
use Rattle.pool_law.specs.Roots.{RootPlace, Present, new_place}
use Rattle.pool_law.specs.Histories.{arena_after, cache_after, place_after}
use Rattle.pool_law.specs.NotedHistories.{noted_dids}
use Rattle.history_laws.specs.NoteCounts.{is_taking, uses_in, has_number, weight_or, arena_out, cache_out, cache_in, ended_region, place_out, place_in}
use Rattle.history_laws.specs.Histories.{IsLawful, IsArenaAfter, IsCacheAfter, IsPlaceAfter}
use Rattle.history_laws.proofs.Names.{same_taking-is}
use Rattle.history_laws.proofs.Runs.{balance, keeps, one_there}
use Rattle.history_laws.proofs.ArenaSteps.{IsArenaStep}
use Rattle.history_laws.proofs.CacheSteps.{IsCacheStep}
use Rattle.history_laws.proofs.PlaceSteps.{IsPlaceStep, region_in}
use Rattle.history_laws.proofs.Told.{cache_note, cache_runs, place_note, place_runs, last_arena, last_place, next_cache}
use Rattle.history_laws.proofs.ArenaTakings.{of_taking, load, arena_laws, fewer_taken}

cache_step : (w : RegionId → ℕ) (l c : ℕ) (x : CacheState) (d : Did) (y : CacheState) → IsCacheStep l c x d y
    → load w x.regions + cache_in w d ≡ cache_out w d + load w y.regions
cache_step w l c x (Hit r) y s = let u = ap (load w) s in let v = sum_by-cons w r y.regions in omega (arith, u, v)
cache_step w l c x (Shed r) y s = let u = ap (load w) s in let v = sum_by-cons w r y.regions in omega (arith, u, v)
cache_step w l c x (Kept r) y s = let u = ap (load w) s.0 in let v = sum_by_push w x.regions r in omega (arith, u, v)
cache_step w l c x Miss y s = let u = ap (load w) s in omega (arith, u)
cache_step w l c x (Back r why) y s = let u = ap (load w) s in omega (arith, u)
cache_step w l c x (Trim k) y s = let u = ap (load w) s in omega (arith, u)
cache_step w l c x (Close k) y s = let u = ap (load w) s in omega (arith, u)
cache_step w l c x d y s = absurd s

-- what was put into a cache was taken out of it or is there
pub cache_law : (s : Shape) (w : RegionId → ℕ) (l c : ℕ) (h : List Noted) (x : CacheState) → IsLawful s (Cache l c) h
    → IsCacheAfter l c h x →
    sum_by (λ (n : Noted). cache_in w n.did) h ≡ sum_by (λ (n : Noted). cache_out w n.did) h + sum_by w x.regions
cache_law s w l c h x k e =
    let u = balance (cache_note l c) (λ x. load w x.regions) (λ n. cache_in w n.did) (λ n. cache_out w n.did)
    (λ x y n step. cache_step w l c x n.did y step) h new_cache x (cache_runs s l c h x k e) in
    let z : load w [] ≡ 0 = refl in omega (arith, u, z)

-- all of these are regions of the lane and the class
abbrev pub OfCache : ℕ → ℕ → List RegionId → Type 0
OfCache l c [] = Unit {0}
OfCache l c (r ∷ rs) = ((r.owner ≡ l) × (r.class ≡ c)) × OfCache l c rs

cache_push : (l c : ℕ) (rs : List RegionId) (r : RegionId) → OfCache l c rs → (r.owner ≡ l) × (r.class ≡ c)
    → OfCache l c (rs ++ r ∷ [])
cache_push l c [] r of is = (is, tt)
cache_push l c (x ∷ rs) r of is = (of.0, cache_push l c rs r of.1 is)

of_step : (l c : ℕ) (x : CacheState) (d : Did) (y : CacheState) → IsCacheStep l c x d y → OfCache l c x.regions
    → OfCache l c y.regions
of_step l c x (Hit r) y s of = (subst (OfCache l c) s of).1
of_step l c x (Shed r) y s of = (subst (OfCache l c) s of).1
of_step l c x (Kept r) y s of = subst (OfCache l c) (sym s.0) (cache_push l c x.regions r of (s.1, s.2))
of_step l c x Miss y s of = subst (OfCache l c) (sym s) of
of_step l c x (Back r why) y s of = subst (OfCache l c) (sym s) of
of_step l c x (Trim k) y s of = subst (OfCache l c) (sym s) of
of_step l c x (Close k) y s of = subst (OfCache l c) (sym s) of
of_step l c x d y s of = absurd s

-- a cache has regions of its own lane and class alone
pub cache_own : (s : Shape) (l c : ℕ) (h : List Noted) (x : CacheState) → IsLawful s (Cache l c) h
    → IsCacheAfter l c h x → OfCache l c x.regions
cache_own s l c h x k e =
    keeps (cache_note l c) (λ (x : CacheState). OfCache l c x.regions) (λ x y n step of. of_step l c x n.did y step of)
    h new_cache x (cache_runs s l c h x k e) tt

-- ---- Root places.

none_out : (x : RootPlace) → x.present ≡ None → region_in x ≡ None
none_out x e = ap (λ (o : Option Present). option_map (λ q. q.region) o) e

place_step : (w : RegionId → ℕ) (p : ℕ) (x : RootPlace) (d : Did) (region : Option RegionId) (y : RootPlace)
    → IsPlaceStep p x d region y →
    weight_or w (region_in x) + place_in w d ≡ weight_or w (ended_region d region) + weight_or w (region_in y)
place_step w p x (Birth r z) region y s =
    let u = ap (weight_or w) (none_out x s.vacant) in let v = ap (weight_or w) s.region in
    let o : weight_or w None ≡ 0 = refl in let t : weight_or w (Some z) ≡ w z = refl in omega (arith, u, v, o, t)
place_step w p x (End r) region y s =
    let u = ap (weight_or w) s.taken_out in let v = ap (weight_or w) (none_out y s.vacant) in let o : weight_or w None
    ≡ 0 = refl in
    omega (arith, u, v, o)
place_step w p x (Grow c z) region y s =
    let u = ap (weight_or w) s.taken_out in let v = ap (weight_or w) s.into in let t : weight_or w (Some z) ≡ w z = refl
    in omega (arith, u, v, t)
place_step w p x (Set i bs) region y s =
    let u = ap (weight_or w) s.same_region in let o : weight_or w None ≡ 0 = refl in omega (arith, u, o)
place_step w p x (Get i bs) region y s =
    let u = ap (weight_or w) s.same_region in let o : weight_or w None ≡ 0 = refl in omega (arith, u, o)
place_step w p x Touch region y s =
    let u = ap (weight_or w) s.same_region in let o : weight_or w None ≡ 0 = refl in omega (arith, u, o)
place_step w p x (Room asked c) region y s =
    let u = ap (weight_or w) s.same_region in let o : weight_or w None ≡ 0 = refl in omega (arith, u, o)
place_step w p x (Extend c) region y s =
    let u = ap (weight_or w) s.same_region in let o : weight_or w None ≡ 0 = refl in omega (arith, u, o)
place_step w p x d region y s = absurd s

-- what came to a root place was taken out of it or is there
pub place_law : (s : Shape) (w : RegionId → ℕ) (p : ℕ) (h : List Noted) (x : RootPlace) → IsLawful s (Root p) h
    → IsPlaceAfter p h x →
    sum_by (λ (n : Noted). place_in w n.did) h ≡ sum_by (place_out w) h + weight_or w (region_in x)
place_law s w p h x k e =
    let u = balance (place_note p) (λ x. weight_or w (region_in x)) (λ n. place_in w n.did) (place_out w)
    (λ x y n step. place_step w p x n.did n.region y step) h new_place x (place_runs s p h x k e) in
    let z : weight_or w (region_in new_place) ≡ 0 = refl in omega (arith, u, z)

-- ---- What a note that follows takes up.

-- a taking that follows is not out
next_taking : (a : ℕ) (x : ArenaState) (d : Did) (y : ArenaState) → IsArenaStep a x d y
    → ((t : ℕ) → x.takings < t → sum_by (has_number a t) x.out ≡ 0) → (q : RegionId) → q.place.arena ≡ a
    → 0 < arena_out (is_taking q) d → sum_by (is_taking q) x.out ≡ 0
next_taking a x (Take c r) y s beyond q is lt = ⊎_elim
    (λ (w : (is_taking q r ≡ 1) × (uses_in q r ≡ r.uses) × (same_taking q r ≡ true)).
    let n : ℕ = x.takings in let e : q.taking ≡ n + 1 = (same_taking-is q r w.2).taking ∙ s.0.taking in
    let z : sum_by (has_number q.place.arena q.taking) x.out
    ≡ 0 =
    subst (λ (b : ℕ). sum_by (has_number b q.taking) x.out ≡ 0) (sym is) (beyond q.taking (omega (arith, e))) in
    let f = fewer_taken q x.out in omega (arith, z, f))
    (λ (w : (is_taking q r ≡ 0) × (uses_in q r ≡ 0)). let w0 = w.0 in absurd (omega (arith, w0, lt)))
    (of_taking q r)
next_taking a x (Full c) y s beyond q is lt = absurd (omega (arith, lt))
next_taking a x (Give r) y s beyond q is lt = absurd (omega (arith, lt))
next_taking a x d y s beyond q is lt = absurd s

pub arena_next : (s : Shape) (a : ℕ) (h : List Noted) (n : Noted) (x : ArenaState) → IsLawful s (Arena a) h
    → IsLawful s (Arena a) (h ++ n ∷ []) → IsArenaAfter s a h x → (q : RegionId) → q.place.arena ≡ a
    → 0 < arena_out (is_taking q) n.did → sum_by (is_taking q) x.out ≡ 0
arena_next s a h n x t more e q is lt =
    let k = last_arena s a h n more in let same : k.0 ≡ x = one_there (arena_after s a (noted_dids h)) k.0 x k.2 e in
    subst (λ (x : ArenaState). sum_by (is_taking q) x.out ≡ 0) same
    (next_taking a k.0 n.did k.1 k.3 (arena_laws s a h k.0 t k.2).beyond q is lt)

-- a region that a cache gives next is there
cache_front : (w : RegionId → ℕ) (l c : ℕ) (x : CacheState) (d : Did) (y : CacheState) → IsCacheStep l c x d y
    → cache_out w d ≤ sum_by w x.regions
cache_front w l c x (Hit r) y s = let u = ap (load w) s in let v = sum_by-cons w r y.regions in omega (arith, u, v)
cache_front w l c x (Shed r) y s = let u = ap (load w) s in let v = sum_by-cons w r y.regions in omega (arith, u, v)
cache_front w l c x (Kept r) y s = omega arith
cache_front w l c x Miss y s = omega arith
cache_front w l c x (Back r why) y s = omega arith
cache_front w l c x (Trim k) y s = omega arith
cache_front w l c x (Close k) y s = omega arith
cache_front w l c x d y s = absurd s

pub cache_next : (s : Shape) (w : RegionId → ℕ) (l c : ℕ) (h : List Noted) (n : Noted) (x : CacheState)
    → IsLawful s (Cache l c) (h ++ n ∷ []) → IsCacheAfter l c h x → cache_out w n.did ≤ sum_by w x.regions
cache_next s w l c h n x more e =
    let k = next_cache s l c h n more in let same : k.0 ≡ x = one_there (cache_after l c (noted_dids h)) k.0 x k.2 e in
    subst (λ (x : CacheState). cache_out w n.did ≤ sum_by w x.regions) same (cache_front w l c k.0 n.did k.1 k.3)

-- the region that the end of a root takes out is there
place_front : (w : RegionId → ℕ) (p : ℕ) (x : RootPlace) (d : Did) (region : Option RegionId) (y : RootPlace)
    → IsPlaceStep p x d region y → weight_or w (ended_region d region) ≤ weight_or w (region_in x)
place_front w p x (End r) region y s = let u = ap (weight_or w) s.taken_out in omega (arith, u)
place_front w p x (Grow c z) region y s = let u = ap (weight_or w) s.taken_out in omega (arith, u)
place_front w p x (Birth r z) region y s = let o : weight_or w None ≡ 0 = refl in omega (arith, o)
place_front w p x (Set i bs) region y s = let o : weight_or w None ≡ 0 = refl in omega (arith, o)
place_front w p x (Get i bs) region y s = let o : weight_or w None ≡ 0 = refl in omega (arith, o)
place_front w p x Touch region y s = let o : weight_or w None ≡ 0 = refl in omega (arith, o)
place_front w p x (Room asked c) region y s = let o : weight_or w None ≡ 0 = refl in omega (arith, o)
place_front w p x (Extend c) region y s = let o : weight_or w None ≡ 0 = refl in omega (arith, o)
place_front w p x d region y s = absurd s

pub place_next : (s : Shape) (w : RegionId → ℕ) (p : ℕ) (h : List Noted) (n : Noted) (x : RootPlace)
    → IsLawful s (Root p) (h ++ n ∷ []) → IsPlaceAfter p h x → place_out w n ≤ weight_or w (region_in x)
place_next s w p h n x more e =
    let k = last_place s p h n more in let same : k.0 ≡ x = one_there (place_after p (noted_dids h)) k.0 x k.2 e in
    subst (λ (x : RootPlace). place_out w n ≤ weight_or w (region_in x)) same
    (place_front w p k.0 n.did n.region k.1 k.3)
