-- What a call makes of a root place.
use Rattle.std.specs.Prelude.{◌≡◌, ℕ, ◌+◌, ◌^◌, ◌<◌, ◌≤◌, List, [], length, replicate, option_map, unwrap_or, drop, ◌++◌, Option, Some, None}
use Rattle.ground.specs.Ground.{with_bytes}
use Rattle.pool_law.specs.declared.id.Region.{Region}
use Rattle.pool_law.specs.declared.id.RootId.{RootId}
use Rattle.pool_law.specs.declared.id.RegionId.{RegionId}
use Rattle.pool_law.specs.declared.note.Did.{Did}
use Rattle.pool_law.specs.declared.report.Access.{Access}
use Rattle.pool_law.specs.declared.report.Watch.{Watch}
use Rattle.pool_law.specs.Roots.{place_step}
use Rattle.leak_records.specs.Records.{new_tracker, with_access}
use Rattle.handle_bin.specs.Bins.{HandleValue}
use Rattle.handle_bin.specs.Lending.{with_tracker}
use Rattle.shared_pool.specs.RootPlaces.{RootState, PlaceState, last_generation, law_place}

-- the region with one use more
abbrev pub used : RegionId → RegionId
used region = record region { uses = region.uses + 1 }

-- a root is present that has so many bytes from the offset on, and few of its accesses are counted
pub record MayAccess (offset len : ℕ) (s : PlaceState) : Type 0 where
  pub root : RootState
  pub present : s.present ≡ Some root
  pub range : offset + len ≤ root.capacity
  pub fits : root.capacity ≤ length root.piece.bytes
  pub few : root.handle.tracker.dropped < 2 ^ 63

-- no root is present, and the place has a name left for one
pub record MayBear (s : PlaceState) : Type 0 where
  pub vacant : s.present ≡ None
  pub few : s.generation < last_generation

-- a root is present, which has its region's memory
pub record MayEnd (s : PlaceState) : Type 0 where
  pub root : RootState
  pub present : s.present ≡ Some root
  pub size : length root.piece.bytes ≡ root.region.place.len

-- the root with other bytes, and with one access more on record
abbrev pub accessed : RootState → List ℕ → Access → RootState
accessed r bytes access =
    record r {
      piece = with_bytes r.piece bytes;
      handle = with_tracker r.handle (with_access r.handle.tracker access);
    }

-- the note may stand, and makes the new place of the old one, where its root has the access more
pub record Accesses (old : PlaceState) (did : Did) (access : Access) (new : PlaceState) : Type 0
  where
    pub root : RootState
    pub bytes : List ℕ
    pub was : old.present ≡ Some root
    pub is : new ≡ record old { present = Some (accessed root bytes access) }
    pub size : length bytes ≡ length root.piece.bytes
    pub step : (place : ℕ) → place_step place (law_place old) did ≡ Some (law_place new)

-- these bytes are the root's from the offset on: a get of them may stand, and changes nothing
abbrev pub AreThere : ℕ → List ℕ → PlaceState → Type 0
AreThere offset bytes s =
    (place : ℕ) → place_step place (law_place s) (Did.Get offset bytes) ≡ Some (law_place s)

-- the bytes of the region of the root that is present
abbrev pub shown : PlaceState → List ℕ
shown s = unwrap_or (option_map (λ r. r.piece.bytes) s.present) []

-- the region's bytes, the first of which are cleared
abbrev pub cleared : ℕ → List ℕ → List ℕ
cleared n bytes = replicate n 0 ++ drop n bytes

-- the root of a birth: it has the region with one use more, and the handle, which starts to watch
abbrev pub born_root : RootId → Region → HandleValue → Option Watch → RootState
born_root root region handle watch =
    record {
      root = root;
      region = used region.id;
      piece = with_bytes region.piece (cleared root.capacity region.piece.bytes);
      handle = with_tracker handle (new_tracker watch);
      capacity = root.capacity;
    }

-- the place once this root is born there
abbrev pub with_born : RootState → PlaceState
with_born r = record { generation = r.root.generation; present = Some r }

-- the place without its root
abbrev pub vacated : PlaceState → PlaceState
vacated s = record s { present = None }
