-- A history of each kind of object is a run of that object's steps.
use Rattle.std.proofs.Common.{◌≡◌, ℕ, List, [], ◌∷◌, ◌++◌, refl, ap, sym, arith, true≢false, Some, None}
use Rattle.std.specs.Prelude.{Option, option_map}
use Rattle.pool_law.specs.declared.run.Shape.{Shape}
use Rattle.pool_law.specs.declared.note.Did.{Did}
use Rattle.pool_law.specs.declared.note.Object.TheVariants.{Arena, Cache, Bin, Mail, Root}
use Rattle.pool_law.specs.declared.note.Noted.{Noted}
use Rattle.pool_law.specs.Limits.{geometry_of}
use Rattle.pool_law.specs.Arenas.{Arena as ArenaState, new_arena, arena_step}
use Rattle.pool_law.specs.Caches.{Cache as CacheState, new_cache, lane_cache_step, new_bin, bin_step}
use Rattle.pool_law.specs.Roots.{RootPlace, new_place, place_step}
use Rattle.pool_law.specs.Histories.{arena_after, cache_after, bin_after, place_after}
use Rattle.pool_law.specs.NotedHistories.{noted_dids, IsRightAt}
use Rattle.pool_law.specs.Logs.{present_in, region_for}
use Rattle.history_laws.specs.Histories.{IsLawful, IsArenaAfter, IsCacheAfter, IsBinAfter, IsPlaceAfter, root_after}
use Rattle.history_laws.proofs.Runs.{Runs, there, told, last_note, next_note, kept, right_last}
use Rattle.history_laws.proofs.BinSteps.{IsBinStep, OfLane, bin_told, of_new}
use Rattle.history_laws.proofs.ArenaSteps.{IsArenaStep, OfArena, arena_told}
use Rattle.history_laws.proofs.CacheSteps.{IsCacheStep, cache_told}
use Rattle.history_laws.proofs.PlaceSteps.{IsPlaceStep, FitsPlace, place_told, root_in}

-- ---- What an object is after its history.

pub arena_there : (s : Shape) (a : ℕ) (h : List Noted) → IsLawful s (Arena a) h
    → (x : ArenaState) × IsArenaAfter s a h x
arena_there s a h t = there (arena_after s a (noted_dids h)) t.accepted

pub cache_there : (s : Shape) (l c : ℕ) (h : List Noted) → IsLawful s (Cache l c) h
    → (x : CacheState) × IsCacheAfter l c h x
cache_there s l c h t = there (cache_after l c (noted_dids h)) t.accepted

pub bin_there : (s : Shape) (l : ℕ) (h : List Noted) → IsLawful s (Bin l) h → (m : List ℕ) × IsBinAfter s l h m
bin_there s l h t = there (bin_after s l (noted_dids h)) t.accepted

pub place_there : (s : Shape) (p : ℕ) (h : List Noted) → IsLawful s (Root p) h → (x : RootPlace) × IsPlaceAfter p h x
place_there s p h t = there (place_after p (noted_dids h)) t.accepted

-- no note stands in a history of a mail
pub no_mail : (s : Shape) (f u : ℕ) (h : List Noted) (n : Noted) → IsLawful s (Mail f u) (h ++ n ∷ []) → ⊥
no_mail s f u h n t = true≢false (sym t.accepted)

-- ---- Bins.

abbrev pub bin_note : Shape → ℕ → List ℕ → Noted → List ℕ → Type 0
bin_note s l q n m = IsBinStep s l q n.did m

new_of : (s : Shape) (l : ℕ) → OfLane s l (new_bin l s.handles)
new_of s l = of_new s l s.handles (omega arith)

pub bin_runs : (s : Shape) (l : ℕ) (h : List Noted) (m : List ℕ) → IsLawful s (Bin l) h → IsBinAfter s l h m
    → Runs (bin_note s l) (new_bin l s.handles) h m
bin_runs s l h m t e =
    told (bin_step l s.handles) (Bin l) (λ b q. OfLane s l q) (bin_note s l)
    (λ b x y n of _ is. bin_told s l x y n.did of is) h [] (new_bin l s.handles) m (new_of s l) t.right e

pub last_bin : (s : Shape) (l : ℕ) (h : List Noted) (n : Noted) → IsLawful s (Bin l) (h ++ n ∷ [])
    → (q : List ℕ) × (m : List ℕ) × IsBinStep s l q n.did m
last_bin s l h n t =
    let m = bin_there s l (h ++ n ∷ []) t in let k =
    last_note (bin_step l s.handles) h n (new_bin l s.handles) m.0 m.1 in
    let of = kept (bin_step l s.handles) (OfLane s l) (λ x y d of is. (bin_told s l x y d of is).1) h
    (new_bin l s.handles) k.0 (new_of s l) k.1 in
    (k.0, m.0, (bin_told s l k.0 m.0 n.did of k.2).0)

-- ---- Arenas.

abbrev pub arena_note : ℕ → ArenaState → Noted → ArenaState → Type 0
arena_note a x n y = IsArenaStep a x n.did y

pub arena_runs : (s : Shape) (a : ℕ) (h : List Noted) (x : ArenaState) → IsLawful s (Arena a) h → IsArenaAfter s a h x
    → Runs (arena_note a) (new_arena (geometry_of s) s.chunks) h x
arena_runs s a h x t e =
    told (arena_step (geometry_of s) a) (Arena a) (λ b y. OfArena a y.out) (arena_note a)
    (λ b x y n of _ is. arena_told (geometry_of s) a x y n.did of is) h [] (new_arena (geometry_of s) s.chunks) x tt
    t.right e

pub last_arena : (s : Shape) (a : ℕ) (h : List Noted) (n : Noted) → IsLawful s (Arena a) (h ++ n ∷ [])
    → (x : ArenaState) × (y : ArenaState) × IsArenaAfter s a h x × IsArenaStep a x n.did y
last_arena s a h n t =
    let g = geometry_of s in
    let y = arena_there s a (h ++ n ∷ []) t in let k = last_note (arena_step g a) h n (new_arena g s.chunks) y.0 y.1 in
    let of = kept (arena_step g a) (λ (z : ArenaState). OfArena a z.out) (λ x y d of is. (arena_told g a x y d of is).1)
    h (new_arena g s.chunks) k.0 tt k.1 in
    (k.0, y.0, k.1, (arena_told g a k.0 y.0 n.did of k.2).0)

-- ---- Caches.

abbrev pub cache_note : ℕ → ℕ → CacheState → Noted → CacheState → Type 0
cache_note l c x n y = IsCacheStep l c x n.did y

pub cache_runs : (s : Shape) (l c : ℕ) (h : List Noted) (x : CacheState) → IsLawful s (Cache l c) h
    → IsCacheAfter l c h x → Runs (cache_note l c) new_cache h x
cache_runs s l c h x t e =
    told (lane_cache_step l c) (Cache l c) (λ b y. Unit {0}) (cache_note l c)
    (λ b x y n _ _ is. (cache_told l c x y n.did is, tt)) h [] new_cache x tt t.right e

pub last_cache : (s : Shape) (l c : ℕ) (h : List Noted) (n : Noted) → IsLawful s (Cache l c) (h ++ n ∷ [])
    → (x : CacheState) × (y : CacheState) × IsCacheStep l c x n.did y
last_cache s l c h n t =
    let y = cache_there s l c (h ++ n ∷ []) t in let k = last_note (lane_cache_step l c) h n new_cache y.0 y.1 in
    (k.0, y.0, cache_told l c k.0 y.0 n.did k.2)

pub next_cache : (s : Shape) (l c : ℕ) (h : List Noted) (n : Noted) → IsLawful s (Cache l c) (h ++ n ∷ [])
    → (x : CacheState) × (y : CacheState) × IsCacheAfter l c h x × IsCacheStep l c x n.did y
next_cache s l c h n t =
    let y = cache_there s l c (h ++ n ∷ []) t in let k = last_note (lane_cache_step l c) h n new_cache y.0 y.1 in
    (k.0, y.0, k.1, cache_told l c k.0 y.0 n.did k.2)

-- ---- Root places.

abbrev pub place_note : ℕ → RootPlace → Noted → RootPlace → Type 0
place_note p x n y = IsPlaceStep p x n.did n.region y

-- what the place is after the notes before, and that the root there was born there
abbrev IsThere : ℕ → List Noted → RootPlace → Type 0
IsThere p before x = IsPlaceAfter p before x × FitsPlace p x

one_more : (p : ℕ) (before : List Noted) (x y : RootPlace) (n : Noted) → IsThere p before x
    → IsRightAt (Root p) before n → place_step p x n.did ≡ Some y →
    place_note p x n y × IsThere p (before ++ n ∷ []) y
one_more p before x y n t right is =
    let region : n.region ≡ region_for n.did x.present = subst_region t.0 right.1 in
    let k = place_told p x y n t.1 region is in
    (k.0, (next_note (place_step p) before n new_place x y t.0 is, k.1))
  where
    subst_region : IsPlaceAfter p before x → n.region
        ≡ region_for n.did (present_in (place_after p (noted_dids before))) → n.region ≡ region_for n.did x.present
    subst_region e r = let f = ap (λ (o : Option RootPlace). region_for n.did (present_in o)) e in cc (r, f)

new_there : (p : ℕ) → IsThere p [] new_place
new_there p = (refl, λ q e. absurd (cc e))

pub place_runs : (s : Shape) (p : ℕ) (h : List Noted) (x : RootPlace) → IsLawful s (Root p) h → IsPlaceAfter p h x
    → Runs (place_note p) new_place h x
place_runs s p h x t e =
    told (place_step p) (Root p) (IsThere p) (place_note p) (one_more p) h [] new_place x (new_there p) t.right e

-- what is present was born at the place
pub place_fits : (p : ℕ) (h : List Noted) (x : RootPlace) → IsPlaceAfter p h x → FitsPlace p x
place_fits p h x e = kept (place_step p) (FitsPlace p) one h new_place x (new_there p).1 e
  where
    one : (x y : RootPlace) (d : Did) → FitsPlace p x → place_step p x d ≡ Some y → FitsPlace p y
    one x y d fits is =
        let n : Noted = record { did = d; lane = None; watch = None; root = None; region = region_for d x.present } in
        (place_told p x y n fits refl is).1

pub last_place : (s : Shape) (p : ℕ) (h : List Noted) (n : Noted) → IsLawful s (Root p) (h ++ n ∷ []) →
    (x : RootPlace) × (y : RootPlace) × IsPlaceAfter p h x × IsPlaceStep p x n.did n.region y
last_place s p h n t =
    let y = place_there s p (h ++ n ∷ []) t in let k = last_note (place_step p) h n new_place y.0 y.1 in
    let one = one_more p h k.0 y.0 n (k.1, place_fits p h k.0 k.1) (right_last (Root p) h n t.right) k.2 in
    (k.0, y.0, k.1, one.0)

-- the root that a place has
pub root_is : (p : ℕ) (h : List Noted) (x : RootPlace) → IsPlaceAfter p h x → root_after p h ≡ root_in x
root_is p h x e = ap (λ (o : Option RootPlace). option_map (λ q. q.root) (present_in o)) e
