-- How an arena holds what it has to give. No public clause cites this module.
use Rattle.std.specs.Prelude.{◌≡◌, ℕ, ◌*◌, ◌≤◌, ◌<◌, true, if◌then◌else◌, List, length, map, All, Some, slice_get}
use Rattle.size_classes.specs.Sizes.{Geometry, IsGeometry, chunk_pages, class_count, is_small}
use Rattle.pool_law.specs.declared.report.ListName.{ListName}
use Rattle.pool_law.specs.ChunkLists.{list_of}
use Rattle.pool_law.specs.Chunks.{usage}
use Rattle.pool_law.specs.Arenas.{chunk_at}
use Rattle.chunk_list.specs.Settling.{IsWithin}
use Rattle.arena_laws.specs.Orderly.{IsOrderly}
use Rattle.pool_arena.specs.Places.{PlaceState}
use Rattle.pool_arena.specs.SubpageLists.{SubpagesState, new_front}
use Rattle.pool_arena.specs.Stocks.{StockState, arena_in}
use Rattle.pool_arena.specs.ArenaStates.{ArenaState}
use Rattle.pool_arena.specs.declared.stock.ChunkStock.TheInside.{Inside as StockInside}
use Rattle.pool_arena.specs.declared.arena.Arena.TheInside.{Inside as ArenaInside}

abbrev pub stock_in : StockInside → StockState
stock_in s =
    record {
      geometry = s.classes;
      grounds = map (λ (p : PlaceState). p.origin) s.places.items;
      chunks = map (λ (p : PlaceState). p.chunk) s.places.items;
      lists = s.lists.lists;
      fronts = map (λ (f : SubpagesState). f.subpages) s.fronts.items;
    }

-- a front of a small class has room for every page of every chunk
pub record HasRoomAt (pages : ℕ) (g : Geometry) (fronts : List SubpagesState) : Type 0 where
  pub count : length fronts ≡ class_count g
  pub room : (class : ℕ) (f : SubpagesState) → is_small g class ≡ true →
      slice_get fronts class ≡ Some f → pages ≤ f.room

-- a front at first: one of a small class has so much room, and another none
abbrev pub front_for : Geometry → ℕ → ℕ → SubpagesState
front_for g room class = new_front (if is_small g class then room else 0)

-- each chunk stands in the list in which its usage lies
abbrev pub AreSettled : StockState → Type 0
AreSettled s =
    (c : ℕ) (name : ListName) → list_of s.lists c ≡ Some name →
    IsWithin (usage s.geometry (chunk_at (arena_in s) c)) name

pub record IsStock (s : StockInside) : Type 0 where
  pub least : 3 ≤ s.classes.order
  pub order : s.classes.order ≤ 11
  pub sizes : IsGeometry s.classes
  pub page : s.page ≡ s.classes.page
  pub few : (1 ≤ length s.places.items) × (length s.places.items ≤ 8)
  pub lists : s.lists.places ≡ length s.places.items
  pub places : All (λ (p : PlaceState). p.geometry ≡ s.classes) s.places.items
  pub fronts : HasRoomAt (length s.places.items * chunk_pages s.classes) s.classes s.fronts.items
  pub settled : AreSettled (stock_in s)

abbrev pub state_in : ArenaInside → ArenaState
state_in a =
    record {
      number = a.number;
      geometry = a.stock.geometry;
      grounds = a.stock.grounds;
      chunks = a.stock.chunks;
      lists = a.stock.lists;
      fronts = a.stock.fronts;
      takings = a.takings;
    }

pub record IsArena (a : ArenaInside) : Type 0 where
  pub number : a.number < 8
  pub orderly : IsOrderly a.stock.geometry (arena_in a.stock)
