-- With which home values a pool opens, what they settle, and its first seats.
use Rattle.std.specs.Prelude.{◌≡◌, ℕ, ◌*◌, ◌%◌, ◌<◌, List, [], ◌++◌, length, map, Some, slice_get, HoldsAt}
use Rattle.pool_law.specs.declared.note.Noted.{Noted}
use Rattle.pool_law.specs.declared.run.Shape.{Shape}
use Rattle.step_law.specs.Settings.{Setting}
use Rattle.step_law.specs.declared.Told.{Ghosts}
use Rattle.pool_law.specs.Limits.{cached_classes, cache_capacity}
use Rattle.pool_arena.specs.ArenaStates.{IsNew}
use Rattle.region_cache.specs.Queues.{new_queue}
use Rattle.handle_bin.specs.Bins.{full_bin}
use Rattle.pool_table.specs.declared.views.Layout.{Layout}
use Rattle.pool_table.specs.declared.table.PoolSeat.{PoolSeat as TableSeat}
use Rattle.pool_table.specs.declared.table.PoolTable.{PoolTable}
use Rattle.pool_table.specs.Opened.{AreFirstSeats}
use Rattle.shared_pool.specs.declared.seat.PoolSeat.{PoolSeat}
use Rattle.shared_pool.specs.SeatViews.{view_of}
use Rattle.shared_pool.specs.RootPlaces.{new_place_state}
use Rattle.shared_pool.specs.declared.home.Home.{Home}
use Rattle.shared_pool.specs.declared.home.Home.TheVariants.{Arena, Cache, Bin, Root}
use Rattle.shared_pool.specs.declared.pool.SharedPool.{SharedPool}
use Rattle.shared_pool.specs.Seats.{IsPoolSeat}

-- the value is that of the k-th arena, cache, bin or root place, at first
abbrev pub IsFirstArena : Shape → ℕ → Home → Type 0
IsFirstArena s k (Arena a) = IsNew k s.page s.order s.chunks a.value
IsFirstArena s k _ = ⊥

abbrev pub IsCacheOf : ℕ → Home → Type 0
IsCacheOf class (Cache q) = q.value ≡ new_queue (cache_capacity class)
IsCacheOf class _ = ⊥

abbrev pub IsFirstCache : ℕ → Home → Type 0
IsFirstCache k x = IsCacheOf (k % cached_classes) x

abbrev pub IsFirstBin : ℕ → ℕ → Home → Type 0
IsFirstBin handles k (Bin b) = b.value ≡ full_bin k handles
IsFirstBin handles k _ = ⊥

abbrev pub IsNewRoot : Home → Type 0
IsNewRoot (Root s) = s.value ≡ new_place_state
IsNewRoot _ = ⊥

-- the list got so many more home values, of which the k-th is such
pub record Adds (P : ℕ → Home → Type 0) (n : ℕ) (old new : List Home) : Type 0 where
  pub more : List Home
  pub is : new ≡ old ++ more
  pub many : length more ≡ n
  pub each : (k : ℕ) (x : Home) → slice_get more k ≡ Some x → P k x

-- the home values with which a pool opens, in the order of its objects
pub record AreFirst (s : Shape) (homes : List Home) : Type 0 where
  pub first : List Home
  pub second : List Home
  pub third : List Home
  pub arenas : Adds (IsFirstArena s) s.arenas [] first
  pub caches : Adds IsFirstCache (s.lanes * cached_classes) first second
  pub bins : Adds (IsFirstBin s.handles) s.lanes second third
  pub roots : Adds (λ k. IsNewRoot) (s.lanes * s.handles) third homes

-- the seats are the first ones of the table, which settles the grounds of all arenas
pub record AreFirstOf {G : Ghosts Home Noted}
    (l : Layout) (table : PoolTable Home) (seats : List (TableSeat Home G)) : Type 0
  where
    pub setting : Setting
    pub grounds : length setting.grounds ≡ l.shape.arenas
    pub seats_are : AreFirstSeats l setting table seats

-- the mails have room for so many parcels, in the order of their lanes
abbrev pub HasRooms : SharedPool → List ℕ → Type 0
HasRooms pool mail = map (λ m. m.room) pool.mails.items ≡ mail

-- the seat is the first one of this lane, without notes, with its share of moves and turns
pub record IsOpened (l : Layout) (pool : SharedPool) (lane : ℕ) (s : PoolSeat) : Type 0 where
  pub seat : IsPoolSeat pool s
  pub number : (view_of s).own.number ≡ Some lane
  pub notes : (view_of s).own.notes ≡ []
  pub moves : (view_of s).moves ≡ l.moves
  pub turns : (view_of s).turns ≡ l.turns

-- the pool is new, with this room in its mails, and the seats are those of all lanes, in order
pub record AreOpened
    (l : Layout) (mail : List ℕ) (pool : SharedPool) (seats : List PoolSeat) : Type 0
  where
    pub rooms : HasRooms pool mail
    pub many : length seats ≡ l.shape.lanes
    pub each : (k : ℕ) → k < l.shape.lanes → HoldsAt (IsOpened l pool k) seats k
