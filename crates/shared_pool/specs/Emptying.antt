-- What is left in caches and at root places of a closed pool, and what is out of its arenas. No
-- public clause cites this module.
use Rattle.std.specs.Prelude.{◌≡◌, ℕ, ◌<◌, ◌≤◌, List, [], ◌∷◌, ◌++◌, map, Option, Some, None, option_map, unwrap_or, All, sum_by, slice_get}
use Rattle.ground.specs.Ground.{Segment}
use Rattle.ground.specs.Grounds.{Grounds}
use Rattle.pool_law.specs.declared.id.RegionId.{RegionId}
use Rattle.pool_law.specs.Places.{IsInPlace}
use Rattle.history_laws.specs.NoteCounts.{is_taking}
use Rattle.arena_laws.specs.Slots.{ArenaHolds}
use Rattle.arena_laws.specs.Covered.{IsCovered}
use Rattle.pool_arena.specs.ArenaStates.{ArenaState, law_of, AreGroundsOf, IsOutOf, IsInPlaceUnder, Gives, AtRest}
use Rattle.region_cache.specs.Queues.{Queue}
use Rattle.shared_pool.specs.RootPlaces.{PlaceState}
use Rattle.shared_pool.specs.declared.home.Home.{Home}
use Rattle.shared_pool.specs.declared.home.Home.TheVariants.{Arena, Cache, Root}

-- a region by its name and its memory
abbrev pub Left : Type 0
Left = RegionId × Segment

-- those that a cache, a root place or another home value has
abbrev pub left_of_cache : Queue → List Left
left_of_cache q = map (λ r. (r.id, r.piece)) q.regions

abbrev pub left_of_place : PlaceState → List Left
left_of_place s = unwrap_or (option_map (λ r. (r.region, r.piece) ∷ []) s.present) []

abbrev pub left_in : Home → List Left
left_in (Cache q) = left_of_cache q.value
left_in (Root s) = left_of_place s.value
left_in _ = []

abbrev pub left_at : Option Home → List Left
left_at (Some x) = left_in x
left_at None = []

-- and those that all of them have
abbrev pub left_of : List (Option Home) → List Left
left_of [] = []
left_of (x ∷ homes) = left_at x ++ left_of homes

-- these takings are out of the arena of this number, and no others
pub record IsOutside
    (grounds : Grounds) (number : ℕ) (out : List RegionId) (a : ArenaState) : Type 0
  where
    pub number_is : a.number ≡ number
    pub on : AreGroundsOf grounds a
    pub holds : ArenaHolds a.geometry a.number (law_of a out)
    pub covered : IsCovered a.geometry (law_of a out)

abbrev pub IsArenaWith : Grounds → ℕ → List RegionId → Option (Option Home) → Type 0
IsArenaWith grounds number out (Some (Some (Arena a))) = IsOutside grounds number out a.value
IsArenaWith grounds number out _ = ⊥

-- an arena takes a region back
abbrev pub MayGive : Option Home → RegionId → Segment → Type 0
MayGive (Some (Arena a)) r piece = IsOutOf a.value r × IsInPlaceUnder a.value r piece
MayGive _ r piece = ⊥

abbrev pub GivesAt : Option Home → RegionId → Option Home → Type 0
GivesAt (Some (Arena a)) r (Some (Arena b)) = Gives a.value r b.value
GivesAt _ r _ = ⊥

-- an arena of which nothing is out
abbrev pub IsResting : Option Home → Type 0
IsResting (Some (Arena a)) = AtRest a.value
IsResting _ = ⊥

-- the first home values are arenas, of which just these regions are out, each once
pub record AreOut (arenas : ℕ) (homes : List (Option Home)) (left : List Left) : Type 0 where
  pub grounds : Grounds
  pub out : ℕ → List RegionId
  pub arena : (k : ℕ) → k < arenas → IsArenaWith grounds k (out k) (slice_get homes k)
  pub once : (q : RegionId) → q.place.arena < arenas →
      sum_by (is_taking q) (out q.place.arena) ≤ 1
  pub left_is : (q : RegionId) → q.place.arena < arenas →
      sum_by (λ (x : Left). is_taking q x.0) left ≡ sum_by (is_taking q) (out q.place.arena)
  pub placed : All (λ (x : Left).
      (x.0.place.arena < arenas) × IsInPlace grounds x.0.place x.1) left
