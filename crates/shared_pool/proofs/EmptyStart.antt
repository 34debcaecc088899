-- As a pool closes, what its caches and root places have is what is out of its arenas.
use Rattle.std.proofs.Common.{◌≡◌, ◌≢◌, ℕ, zero, suc, ◌+◌, ◌<◌, List, [], ◌∷◌, length, map, refl, ap, ◌∙◌, arith, Some, None}
use Rattle.std.specs.Prelude.{Option, IfSome, option_map, option_and_then, unwrap_or, All, sum_by, slice_get}
use Rattle.std.proofs.lemmas.List.Sums.{sum_by-cons, sum_by-append}
use Rattle.std.proofs.lemmas.List.Elements.{All-head, All-tail, All-cons, All-nil, All-append}
use Rattle.std.proofs.lemmas.Option.{slice_get_within}
use Rattle.step_law.specs.Settings.{Setting}
use Rattle.ground.specs.Ground.{Origin, Segment}
use Rattle.ground.specs.Grounds.{Grounds}
use Rattle.pool_law.specs.declared.id.Place.{Place}
use Rattle.pool_law.specs.declared.id.Region.{Region}
use Rattle.pool_law.specs.declared.id.RegionId.{RegionId}
use Rattle.pool_law.specs.declared.note.Noted.{Noted}
use Rattle.pool_law.specs.Arenas.{Arena as ArenaLaw}
use Rattle.pool_law.specs.Caches.{Cache as CacheState, new_cache}
use Rattle.pool_law.specs.Places.{IsInPlace}
use Rattle.pool_law.specs.Roots.{RootPlace, new_place}
use Rattle.history_laws.specs.NoteCounts.{weight_or}
use Rattle.pool_table.specs.Holders.{sum_to}
use Rattle.region_cache.specs.Queues.{cache_of}
use Rattle.region_cache.specs.Standing.{IsRegionOf}
use Rattle.shared_pool.specs.Emptying.{Left, left_in, left_at, left_of}
use Rattle.shared_pool.specs.RootPlaces.{RootState, law_root, law_place, IsRootAt}
use Rattle.shared_pool.specs.Standing.{HomeStands}
use Rattle.shared_pool.specs.declared.home.Home.{Home}
use Rattle.shared_pool.specs.declared.home.Home.TheVariants.{Arena, Cache, Bin, Root}

-- ---- Sums by place.

front : (n : ℕ) (g : ℕ → ℕ) → sum_to (suc n) g ≡ g 0 + sum_to n (λ i. g (suc i))
front zero g = omega arith
front (suc n) g = let a = front n g in omega (arith, a)

pub split : (a b : ℕ) (g : ℕ → ℕ) → sum_to (a + b) g ≡ sum_to a g + sum_to b (λ i. g (a + i))
split a zero g =
    ap (λ n. sum_to n g) (let e : a + 0 ≡ a = omega arith in e)
    ∙ (let x : ℕ = sum_to a g in let e : x ≡ x + 0 = omega arith in e)
split a (suc b) g =
    let ih = split a b g in let e : a + suc b ≡ suc (a + b) = omega arith in let s = ap (λ n. sum_to n g) e in
    omega (arith, ih, s)

-- ---- What stands at a place.

module _ (w : RegionId → ℕ) where
  abbrev pub weighs : Option (Option Home) → ℕ
  weighs None = 0
  weighs (Some x) = sum_by (λ (y : Left). w y.0) (left_at x)

  pub by_place : (homes : List (Option Home)) → sum_by (λ (y : Left). w y.0) (left_of homes)
      ≡ sum_to (length homes) (λ i. weighs (slice_get homes i))
  by_place [] = refl
  by_place (x ∷ homes) =
      let a = sum_by-append (λ (y : Left). w y.0) (left_at x) (left_of homes) in let b = by_place homes in let c =
      front (length homes) (λ i. weighs (slice_get (x ∷ homes) i)) in
      omega (arith, a, b, c)

  pub names : (rs : List Region) → sum_by (λ (y : Left). w y.0) (map (λ (r : Region). (r.id, r.piece)) rs)
      ≡ sum_by w (map (λ (r : Region). r.id) rs)
  names [] = refl
  names (r ∷ rs) =
      let a = sum_by-cons (λ (y : Left). w y.0) (r.id, r.piece) (map (λ (x : Region). (x.id, x.piece)) rs) in
      let b = sum_by-cons w r.id (map (λ (x : Region). x.id) rs) in let ih = names rs in omega (arith, a, b, ih)

  pub present : (o : Option RootState) → sum_by (λ (y : Left). w y.0)
      (unwrap_or (option_map (λ (r : RootState). (r.region, r.piece) ∷ []) o) [])
      ≡ weight_or w (option_map (λ q. q.region) (option_map law_root o))
  present None = refl
  present (Some r) = omega arith

-- the law's cache, and its root place
abbrev pub cache_in : Option (Option Home) → CacheState
cache_in (Some (Some (Cache q))) = cache_of q.value
cache_in _ = new_cache

abbrev pub place_in : Option (Option Home) → RootPlace
place_in (Some (Some (Root s))) = law_place s.value
place_in _ = new_place

-- a value that is no cache and no root place has nothing
pub quiet : (m : ℕ) (ms : List ℕ) (setting : Setting) (h : List Noted) (x : Home) → m ≢ 1 → m ≢ 4
    → HomeStands (m ∷ ms) setting h x → left_in x ≡ []
quiet m ms setting h (Arena a) one four at = refl
quiet m ms setting h (Bin b) one four at = refl
quiet m ms setting h (Cache q) one four at = absurd (one (cc at.measured))
quiet m ms setting h (Root s) one four at = absurd (four (cc at.measured))

-- each region has the memory of its place
abbrev Lies : Setting → Left → Type 0
Lies setting x = IsInPlace setting.grounds x.0.place x.1

in_cache : (setting : Setting) (rs : List Region) → All (IsRegionOf setting.grounds) rs
    → All (Lies setting) (map (λ (r : Region). (r.id, r.piece)) rs)
in_cache setting [] all = All-nil (Lies setting)
in_cache setting (r ∷ rs) all =
    All-cons (Lies setting) (r.id, r.piece) (map (λ (x : Region). (x.id, x.piece)) rs)
    (All-head (IsRegionOf setting.grounds) r rs all)
    (in_cache setting rs (All-tail (IsRegionOf setting.grounds) r rs all))

at_root : (setting : Setting) (place handles : ℕ) (h : List Noted) (o : Option RootState)
    → IfSome o (IsRootAt setting.grounds place handles h) →
    All (Lies setting) (unwrap_or (option_map (λ (r : RootState). (r.region, r.piece) ∷ []) o) [])
at_root setting place handles h None is = All-nil (Lies setting)
at_root setting place handles h (Some r) is =
    All-cons (Lies setting) (r.region, r.piece) [] is.in_place (All-nil (Lies setting))

pub lies : (setting : Setting) (ms : List ℕ) (h : List Noted) (x : Home) → HomeStands ms setting h x
    → All (Lies setting) (left_in x)
lies setting ms h (Arena a) at = All-nil (Lies setting)
lies setting ms h (Bin b) at = All-nil (Lies setting)
lies setting ms h (Cache q) at = in_cache setting q.value.regions at.stands.in_place
lies setting ms h (Root s) at = at_root setting at.place at.handles h s.value.present at.stands.root

-- on a ground of the list
pub on_ground : (grounds : Grounds) (place : Place) (piece : Segment) → IsInPlace grounds place piece
    → place.arena < length grounds
on_ground grounds place piece is = go (slice_get grounds place.arena) refl is.on_ground
  where
    go : (o : Option (List Origin)) → slice_get grounds place.arena ≡ o
        → option_and_then (λ chunks. slice_get chunks place.chunk) o ≡ Some piece.origin → place.arena < length grounds
    go None here e = absurd (cc e)
    go (Some chunks) here e = slice_get_within grounds place.arena chunks here

pub each_left : (P : Left → Type 0) (homes : List (Option Home))
    → ((i : ℕ) (x : Option Home) → slice_get homes i ≡ Some x → All P (left_at x)) → All P (left_of homes)
each_left P [] each = All-nil P
each_left P (x ∷ homes) each =
    All-append P (left_at x) (left_of homes) (each 0 x refl) (each_left P homes (λ i y is. each (suc i) y is))

-- what is out of an arena, if it is one
abbrev pub out_after : Option ArenaLaw → List RegionId
out_after None = []
out_after (Some a) = a.out
