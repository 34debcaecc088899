-- What a seat learns where it gets into a section.
use Rattle.step_law.specs.Settings.{Setting}
use Rattle.std.specs.Prelude.{◌≡◌, ℕ, ◌+◌, ◌*◌, ◌<◌, ◌≤◌, ◌==◌, ◌&&◌, true, List, [], ◌∷◌, ◌++◌, length, Some, None, IfSome, All, filter, filter_map, count_by, sum_by}
use Rattle.pool_law.specs.declared.id.RegionId.{RegionId}
use Rattle.pool_law.specs.declared.id.RootId.{RootId}
use Rattle.pool_law.specs.declared.note.Did.{Did}
use Rattle.pool_law.specs.declared.note.Did.TheVariants.{Take, Give}
use Rattle.pool_law.specs.declared.note.Noted.{Noted}
use Rattle.pool_law.specs.declared.note.Object.{Object}
use Rattle.pool_law.specs.declared.note.Object.TheVariants.{Arena, Cache, Bin, Root}
use Rattle.pool_law.specs.Homes.{home_of, IsObjectOf}
use Rattle.pool_law.specs.NotedHistories.{MayNote}
use Rattle.pool_law.specs.Arenas.{Arena as ArenaState, is_out_of}
use Rattle.pool_law.specs.Caches.{Cache as CacheState}
use Rattle.pool_law.specs.Roots.{Present, RootPlace}
use Rattle.history_laws.specs.Histories.{IsLawful, root_after, IsPlaceAfter, IsArenaAfter, IsCacheAfter, IsBinAfter}
use Rattle.history_laws.specs.NoteCounts.{one_if_so, is_taking, has_number, arena_out, cache_out, place_out}
use Rattle.history_laws.specs.Measures.{measures_of}
use Rattle.pool_table.specs.declared.views.Entry.{Entry}
use Rattle.pool_table.specs.declared.views.Layout.{Layout}
use Rattle.pool_table.specs.declared.views.SeatView.{SeatView}
use Rattle.pool_table.specs.Views.{noted_of, noted_weight, is_about, is_lane}
use Rattle.pool_table.specs.Counts.{weigh, on_this, ref_vacated, gained_of, lost_of, HasCount, HasToken}
use Rattle.pool_table.specs.Numbers.{IsAbove}
use Rattle.pool_table.specs.Capacities.{knows_of}
use Rattle.pool_table.specs.Lone.{names, IsLone, own_bytes}
use Rattle.pool_table.specs.Hands.{ends, HasNoEnd, InHand, NoneWaits, from_arena, to_arena, weight_taken, weight_put_down, HasTaking, HasRegion, IsPutDown}
use Rattle.pool_table.specs.Sound.{IsView}

-- what the history of a root place tells a view: the present root is the one that it counts, or
-- that it ended and whose end it hasn't noted; the place in hand is vacant, where no birth waits
pub record TellsRoot (l : Layout) (p : ℕ) (v : SeatView) (h : List Noted) : Type 0 where
  pub counted : (r : RootId) → r.place ≡ p → HasCount r v → root_after p h ≡ Some r
  pub ended : (r : RootId) → r.place ≡ p → HasToken r v → HasNoEnd r v →
      root_after p h ≡ Some r
  pub in_hand : InHand p v → NoneWaits p v → root_after p h ≡ None
  -- no birth waits where the last root isn't vacated
  pub none_waits : (r : RootId) → r.place ≡ p → HasToken r v → NoneWaits p v
  -- each root that was born there has a note, and the place in hand is worn out at the latest with
  -- the last generation that fits its word
  pub few : (x : RootPlace) → IsPlaceAfter p h x → x.generation ≤ l.shape.lanes * l.turns
  pub young : InHand p v → NoneWaits p v → (x : RootPlace) → IsPlaceAfter p h x →
      x.generation < 4294967296
  -- the root that it counts has at least the capacity that it knows
  pub capacity : (r : RootId) → r.place ≡ p → HasCount r v → (x : RootPlace) (q : Present) →
      IsPlaceAfter p h x → x.present ≡ Some q → knows_of r v ≤ length q.bytes
  -- the bytes of a root with which a lane's seat is alone are those that its own notes laid
  pub lone : (r : RootId) (lane : ℕ) → r.place ≡ p → v.own.number ≡ Some lane → IsLone r v →
      (x : RootPlace) (q : Present) →
      IsPlaceAfter p h x → x.present ≡ Some q → q.root ≡ r → q.bytes ≡ own_bytes r v
  -- the seat hasn't named a root of a later generation than the last one's
  pub unnamed : (r : RootId) → r.place ≡ p → (x : RootPlace) → IsPlaceAfter p h x →
      x.generation < r.generation → sum_by (names r) v.own.notes ≡ 0

-- the entries of the seat's own part, weighed
abbrev pub in_own : (Entry → ℕ) → SeatView → ℕ
in_own f v = sum_by f v.own.notes

-- a note takes a region of the class, and gives one of the class back that this lane owns
abbrev pub did_take : ℕ → Did → ℕ
did_take class (Take c r) = one_if_so (c == class)
did_take class d = 0

abbrev pub did_give : ℕ → ℕ → Did → ℕ
did_give lane class (Give r) = one_if_so ((r.owner == lane) && (r.class == class))
did_give lane class d = 0

abbrev pub takes_of : ℕ → Entry → ℕ
takes_of class e = noted_weight (λ (n : Noted). did_take class n.did) e

abbrev pub gives_of : ℕ → ℕ → Entry → ℕ
gives_of lane class e = noted_weight (λ (n : Noted). did_give lane class n.did) e

-- what the cache of a class tells the seat of its own lane: the regions in it and those of the lane
-- that the seat gave are of different takings, each of which the seat took
pub record TellsCache (lane class : ℕ) (v : SeatView) (x : CacheState) : Type 0 where
  pub each : (q : RegionId) → q.owner ≡ lane →
      sum_by (is_taking q) x.regions + in_own (to_arena (is_taking q)) v
      ≤ in_own (from_arena (is_taking q)) v
  pub once : (a t : ℕ) → in_own (from_arena (has_number a t)) v ≤ 1
  -- so of its class it has and the seat gave no more than the seat took
  pub bound : length x.regions + in_own (gives_of lane class) v ≤ in_own (takes_of class) v

-- how much of the taking of q a note takes up
abbrev pub did_take_up : RegionId → Noted → ℕ
did_take_up q n =
    arena_out (is_taking q) n.did + (cache_out (is_taking q) n.did + place_out (is_taking q) n)

-- what a view knows of its counts at any moment: none of a root is below 0, and each root that it
-- counts is at one of the shape's places
pub record KnowsCounts (l : Layout) (v : SeatView) : Type 0 where
  pub counted : (r : RootId) → lost_of r v ≤ gained_of r v
  pub placed : (r : RootId) → HasCount r v → r.place < l.shape.lanes * l.shape.handles

-- what a seat that got into the section of o learns: the history h, for which the home value x
-- stands
pub record Enters {H : Type 0}
    (stands : List ℕ → Setting → List Noted → H → Type 0) (l : Layout)
    (o : Object) (v : SeatView) (h : List Noted) (x : H) : Type 0 where
  pub object : IsObjectOf l.shape o
  pub accepted : IsLawful l.shape o h
  pub stands_for : IfSome v.setting (λ (g : Setting). stands (measures_of l.shape o) g h x)
  pub short : length h < 4611686018427387904
  -- the seat's own counts and hands are in order, and the uses of what is in hand are few
  pub setting : Setting
  pub view : IsView l.shape setting v
  pub uses : (r : RegionId) → HasRegion r v → r.uses < 4611686018427387904
  -- no count of a root is below 0, and none is vacated before its end is noted
  pub counted : (r : RootId) → lost_of r v ≤ gained_of r v
  pub vacated : (r : RootId) → weigh (on_this ref_vacated r) v ≤ weigh (ends r) v
  -- no taking is in hand twice
  pub once : (q : RegionId) → weight_taken (is_taking q) v ≤ weight_put_down (is_taking q) v + 1
  -- what a note that may come next takes up isn't in hand yet
  pub free : (q : RegionId) (n : Noted) → IsLawful l.shape o (h ++ n ∷ []) → 0 < did_take_up q n →
      IsPutDown q v
  pub root : (p : ℕ) → o ≡ Root p → TellsRoot l p v h
  -- a region in hand is out of its arena, with this place, class and owner
  pub arena : (a : ℕ) (x : ArenaState) → o ≡ Arena a → IsArenaAfter l.shape a h x →
      (r : RegionId) → r.place.arena ≡ a → HasTaking r v → is_out_of x r ≡ true
  pub cache : (m class : ℕ) (x : CacheState) → o ≡ Cache m class → v.own.number ≡ Some m →
      IsCacheAfter m class h x → TellsCache m class v x
  -- no place in hand is in the bin
  pub bin : (b p : ℕ) (m : List ℕ) → o ≡ Bin b → IsBinAfter l.shape b h m → InHand p v →
      count_by (λ (x : ℕ). x == p) m ≡ 0
  -- each note is one that its lane may make there
  pub lanes : All (λ (n : Noted). MayNote l.shape n.lane o n.did) h
  -- the next note's number is above all that the seat has noted of the object
  pub seen : IsAbove o (length h + 1) v.own.notes
  -- a numbered seat's own notes are those of the history that have its number
  pub own : (m : ℕ) → v.own.number ≡ Some m →
      filter_map noted_of (filter (is_about l.shape (home_of l.shape o)) v.own.notes)
      ≡ filter (λ (n : Noted). is_lane m n.lane) h
