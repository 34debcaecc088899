-- Laws of the sound table: who has a root place, and who has a taking.
use Rattle.step_law.specs.Settings.{Setting}
use Rattle.std.specs.Prelude.{◌≡◌, ◌≢◌, ◌⊎◌, ℕ, zero, suc, ◌+◌, ◌*◌, ◌/◌, ◌%◌, ◌<◌, ◌≤◌, ◌==◌, List, length, Option, Some, option_map, All, sum_by, count_by}
use mathlib.Core.Option.{some}
use lib.ListN.{get_elem?}
use Rattle.atomic_table.specs.Table.{State}
use Rattle.pool_law.specs.declared.note.Noted.{Noted}
use Rattle.pool_law.specs.declared.run.Shape.{Shape}
use Rattle.pool_law.specs.declared.id.RegionId.{RegionId}
use Rattle.pool_law.specs.declared.id.RootId.{RootId}
use Rattle.pool_law.specs.declared.note.Object.{Object}
use Rattle.pool_law.specs.declared.note.Object.TheVariants.{Arena, Cache, Bin, Root}
use Rattle.pool_law.specs.Homes.{IsObjectOf}
use Rattle.pool_law.specs.Limits.{cached_classes}
use Rattle.pool_law.specs.Arenas.{Arena as ArenaState}
use Rattle.pool_law.specs.Caches.{Cache as CacheState}
use Rattle.pool_law.specs.Roots.{Present, RootPlace}
use Rattle.history_laws.specs.NoteCounts.{place_lane, is_taking, uses_in, weight_or}
use Rattle.history_laws.specs.Histories.{IsArenaAfter, IsCacheAfter, IsBinAfter, IsPlaceAfter}
use Rattle.pool_table.specs.declared.views.Layout.{Layout}
use Rattle.pool_table.specs.declared.views.SeatView.{SeatView}
use Rattle.pool_table.specs.Births.{IsBorn}
use Rattle.pool_table.specs.Capacities.{KnowsNoMore}
use Rattle.pool_table.specs.Counts.{weigh, HasCount, HasToken}
use Rattle.pool_table.specs.Lone.{names, IsLone, CarriesNone}
use Rattle.pool_table.specs.Hands.{InHand, taken, put_down, HasTaking, weight_taken, weight_put_down, uses_come, uses_gone, to_place}
use Rattle.pool_table.specs.Sound.{IsSound}

-- a view has the place in its hands, or the end token of its root
abbrev pub HoldsPlace : ℕ → SeatView → Type 0
HoldsPlace p v = InHand p v ⊎ ((r : RootId) × (r.place ≡ p) × HasToken r v)

-- two views of a state
pub record AreTwo {H : Type 0} (s : State (Option H) SeatView) (v u : SeatView) : Type 0 where
  pub first : ℕ
  pub second : ℕ
  pub apart : first ≢ second
  pub at_first : get_elem? s.views first ≡ some v
  pub at_second : get_elem? s.views second ≡ some u

-- f 0 and f 1 and so on, n of them, added up
abbrev pub sum_to : ℕ → (ℕ → ℕ) → ℕ
sum_to zero f = 0
sum_to (suc n) f = sum_to n f + f n

-- the region of the root that is present
abbrev pub region_at : RootPlace → Option RegionId
region_at x = option_map (λ q. q.region) x.present

-- what all caches have, and all root places, by a weight of regions
abbrev pub in_caches : Shape → (RegionId → ℕ) → (ℕ → ℕ → CacheState) → ℕ
in_caches s w caches =
    sum_to
    (s.lanes * cached_classes)
    (λ i. sum_by w (caches (i / cached_classes) (i % cached_classes)).regions)

abbrev pub at_places : Shape → (RegionId → ℕ) → (ℕ → RootPlace) → ℕ
at_places s w places = sum_to (s.lanes * s.handles) (λ p. weight_or w (region_at (places p)))

-- what the arena a, all caches and all root places are after these histories
pub record AreStates (s : Shape) (history : (o : Object) → IsObjectOf s o → List Noted)
    (a : ℕ) (fits : a < s.arenas)
    (arena : ArenaState) (caches : ℕ → ℕ → CacheState) (places : ℕ → RootPlace) : Type 0 where
  pub arena_is : IsArenaAfter s a (history (Arena a) fits) arena
  pub caches_are : (d c : ℕ) (fits : IsObjectOf s (Cache d c)) →
      IsCacheAfter d c (history (Cache d c) fits) (caches d c)
  pub places_are : (p : ℕ) (fits : IsObjectOf s (Root p)) →
      IsPlaceAfter p (history (Root p) fits) (places p)

-- the taking of q is out of its arena once or never, and so often it is in a view's hands, in a
-- cache or at a root place; where it is out, its uses there are as many as the births that name it
pub record IsInOneHold (s : Shape) (views : List SeatView) (q : RegionId)
    (arena : ArenaState) (caches : ℕ → ℕ → CacheState) (places : ℕ → RootPlace) : Type 0 where
  pub once : sum_by (is_taking q) arena.out ≤ 1
  pub held :
      sum_by (weight_taken (is_taking q)) views
      + (in_caches s (is_taking q) caches + at_places s (is_taking q) places)
      ≡ sum_by (weight_put_down (is_taking q)) views + sum_by (is_taking q) arena.out
  pub uses : 0 < sum_by (is_taking q) arena.out →
      sum_by (uses_come q) views
      + (in_caches s (uses_in q) caches + at_places s (uses_in q) places)
      ≡ sum_by (uses_gone q) views + sum_by (weigh (to_place (is_taking q))) views

module _ {H : Type 0} (stands : List ℕ → Setting → List Noted → H → Type 0) (l : Layout) where
  -- no root place is in the hands of two views
  abbrev pub PlacesInOneHand : Type 0
  PlacesInOneHand =
      (s : State (Option H) SeatView) → IsSound stands l s →
      (p : ℕ) → p < l.shape.lanes * l.shape.handles →
      (v u : SeatView) → AreTwo s v u → InHand p v → InHand p u → ⊥

  -- a root place is in its bin or in hand, once, exactly where the word of its count says that it
  -- is vacant: as often as it is in its bin and was taken, it was put down or is vacant
  abbrev pub PlacesInOnePlace : Type 0
  PlacesInOnePlace =
      (s : State (Option H) SeatView) (r : IsSound stands l s)
      (p : ℕ) (lt : p < l.shape.lanes * l.shape.handles)
      (fits : place_lane l.shape p < l.shape.lanes) (bin : List ℕ) →
      IsBinAfter l.shape (place_lane l.shape p)
      (r.objects (Bin (place_lane l.shape p)) fits).history bin →
      count_by (λ (x : ℕ). x == p) bin + sum_by (taken p) s.views
      ≡ sum_by (put_down p) s.views + (r.counts p lt).vacant

  -- no taking is in the hands of two views: neither is one with its number
  abbrev pub TakingsInOneHand : Type 0
  TakingsInOneHand =
      (s : State (Option H) SeatView) → IsSound stands l s →
      (q g : RegionId) → q.place.arena < l.shape.arenas →
      g.place.arena ≡ q.place.arena → g.taking ≡ q.taking →
      (v u : SeatView) → AreTwo s v u → HasTaking q v → HasTaking g u → ⊥

  abbrev pub TakingsInOneHold : Type 0
  TakingsInOneHold =
      (s : State (Option H) SeatView) (r : IsSound stands l s)
      (q : RegionId) (fits : q.place.arena < l.shape.arenas)
      (arena : ArenaState) (caches : ℕ → ℕ → CacheState) (places : ℕ → RootPlace) →
      AreStates l.shape (λ o fits. (r.objects o fits).history)
      q.place.arena fits arena caches places →
      IsInOneHold l.shape s.views q arena caches places

  -- of one place and generation no two roots are born: they have one capacity
  abbrev pub RootsBornAlone : Type 0
  RootsBornAlone =
      (s : State (Option H) SeatView) → IsSound stands l s → (q r : RootId) →
      IsBorn s.views q → IsBorn s.views r → r.place ≡ q.place → r.generation ≡ q.generation → r ≡ q

  -- a view counts, ends and posts only roots that were born as it names them
  abbrev pub RootsBornAsNamed : Type 0
  RootsBornAsNamed =
      (s : State (Option H) SeatView) → IsSound stands l s → (id : ℕ) (v : SeatView) →
      get_elem? s.views id ≡ some v → (q : RootId) → HasCount q v ⊎ HasToken q v → IsBorn s.views q

  -- what a part knows of the capacity of the root that is present at a place, and how far the view
  -- of it in a letter reaches, is at most the capacity that it has by the place's history
  abbrev pub CapacitiesAreKnown : Type 0
  CapacitiesAreKnown =
      (s : State (Option H) SeatView) (r : IsSound stands l s)
      (p : ℕ) (fits : IsObjectOf l.shape (Root p)) (x : RootPlace) (q : Present) →
      IsPlaceAfter p (r.objects (Root p) fits).history x → x.present ≡ Some q →
      All (KnowsNoMore q.root (length q.bytes)) s.views

  -- a root that a view bore and posted to nobody is named by no other view, so that none counts it or
  -- has its end token, and no letter carries a view of it
  abbrev pub LoneRootsAreUnshared : Type 0
  LoneRootsAreUnshared =
      (s : State (Option H) SeatView) → IsSound stands l s → (v u : SeatView) → AreTwo s v u →
      (r : RootId) → IsLone r v →
      (weigh (names r) u ≡ 0) × (HasCount r u → ⊥) × (HasToken r u → ⊥)
      × All (CarriesNone r) s.views
