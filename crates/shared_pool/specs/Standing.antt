-- When a home value stands for the history of its object.
use Rattle.std.specs.Prelude.{◌≡◌, ℕ, ◌<◌, ⊤, List, [], ◌∷◌, ◌++◌, length, IfSome, All}
use Rattle.step_law.specs.Settings.{Setting}
use Rattle.pool_law.specs.declared.id.RegionId.{RegionId}
use Rattle.pool_law.specs.declared.note.Did.{Did}
use Rattle.pool_law.specs.declared.note.Noted.{Noted}
use Rattle.size_classes.specs.Sizes.{of_pages, class_count, size_at}
use Rattle.pool_law.specs.Limits.{cache_capacity}
use Rattle.pool_arena.specs.ArenaStates.{ArenaState}
use Rattle.pool_arena.specs.Standing.{StandsFor as ArenaStandsFor}
use Rattle.region_cache.specs.Queues.{Queue}
use Rattle.region_cache.specs.Standing.{StandsFor as CacheStandsFor}
use Rattle.handle_bin.specs.Bins.{BinValue}
use Rattle.handle_bin.specs.Standing.{StandsFor as BinStandsFor}
use Rattle.shared_pool.specs.RootPlaces.{PlaceState, PlaceStandsFor}
use Rattle.shared_pool.specs.declared.home.Home.{Home}
use Rattle.shared_pool.specs.declared.home.Home.TheVariants.{Arena, Cache, Bin, Root}

-- the arena of these measures, and its history
pub record IsArenaAt
    (measures : List ℕ) (setting : Setting) (h : List Noted) (a : ArenaState) : Type 0 where
  pub measured : measures
      ≡ 0 ∷ a.number ∷ a.geometry.order ∷ a.geometry.page ∷ length a.chunks ∷ []
  pub stands : ArenaStandsFor setting.grounds h a

-- the region is as long as its class says
abbrev pub HasClassLength : RegionId → Type 0
HasClassLength r = r.place.len ≡ size_at r.class

-- the cache of a lane and a class
pub record IsCacheAt
    (measures : List ℕ) (setting : Setting) (h : List Noted) (q : Queue) : Type 0 where
  pub lane : ℕ
  pub class : ℕ
  pub measured : measures ≡ 1 ∷ lane ∷ class ∷ []
  pub capacity : q.capacity ≡ cache_capacity class
  pub stands : CacheStandsFor setting.grounds h q
  pub lens : All (λ r. HasClassLength r.id) q.regions

-- the bin of a lane
pub record IsBinAt
    (measures : List ℕ) (setting : Setting) (h : List Noted) (b : BinValue) : Type 0 where
  pub measured : measures ≡ 2 ∷ b.lane ∷ b.handles ∷ []
  pub stands : BinStandsFor setting.grounds h b

-- a root place
pub record IsPlaceAt
    (measures : List ℕ) (setting : Setting) (h : List Noted) (s : PlaceState) : Type 0 where
  pub place : ℕ
  pub handles : ℕ
  pub lanes : ℕ
  pub order : ℕ
  pub page : ℕ
  pub measured : measures ≡ 4 ∷ place ∷ handles ∷ lanes ∷ order ∷ page ∷ []
  pub stands : PlaceStandsFor setting.grounds place handles h s
  pub region : IfSome s.present (λ r. (r.region.owner < lanes)
      × (r.region.class < class_count (of_pages order page)) × HasClassLength r.region)

-- the value is that of the object with these measures, and stands for its history
abbrev pub HomeStands : List ℕ → Setting → List Noted → Home → Type 0
HomeStands measures setting h (Arena a) = IsArenaAt measures setting h a.value
HomeStands measures setting h (Cache q) = IsCacheAt measures setting h q.value
HomeStands measures setting h (Bin b) = IsBinAt measures setting h b.value
HomeStands measures setting h (Root s) = IsPlaceAt measures setting h s.value

-- which home value it is
abbrev pub IsArena : Home → Type 0
IsArena (Arena a) = ⊤
IsArena _ = ⊥

abbrev pub IsCache : Home → Type 0
IsCache (Cache q) = ⊤
IsCache _ = ⊥

abbrev pub IsBin : Home → Type 0
IsBin (Bin b) = ⊤
IsBin _ = ⊥

-- what holds of the value in it
abbrev pub IfBin : Home → (BinValue → Type 0) → Type 0
IfBin (Bin b) P = P b.value
IfBin _ P = ⊤

abbrev pub IfCache : Home → (Queue → Type 0) → Type 0
IfCache (Cache q) P = P q.value
IfCache _ P = ⊤

abbrev pub IfArena : Home → (ArenaState → Type 0) → Type 0
IfArena (Arena a) P = P a.value
IfArena _ P = ⊤

abbrev pub IfPlace : Home → (PlaceState → Type 0) → Type 0
IfPlace (Root s) P = P s.value
IfPlace _ P = ⊤

abbrev pub IsPlace : Home → Type 0
IsPlace (Root s) = ⊤
IsPlace _ = ⊥

-- whatever the value stood for, it stands for the longer with a note of this
abbrev pub StandsMore : Home → Did → Home → Type 0
StandsMore old did new =
    (measures : List ℕ) (setting : Setting) (h : List Noted) (n : Noted) → n.did ≡ did →
    HomeStands measures setting h old → HomeStands measures setting (h ++ n ∷ []) new
