-- What a contract sees of a root place, and when it stands for a history.
use Rattle.std.specs.Prelude.{◌≡◌, ℕ, ◌-◌, ◌/◌, ◌^◌, ◌≤◌, false, List, [], ◌∷◌, map, take, Option, Some, None, option_map, unwrap_or, IfSome}
use Rattle.ground.specs.Ground.{Segment}
use Rattle.ground.specs.Grounds.{Grounds}
use Rattle.pool_law.specs.declared.id.RootId.{RootId}
use Rattle.pool_law.specs.declared.id.RegionId.{RegionId}
use Rattle.pool_law.specs.declared.note.Did.{Did}
use Rattle.pool_law.specs.declared.note.Did.TheVariants.{Birth}
use Rattle.pool_law.specs.declared.note.Noted.{Noted}
use Rattle.pool_law.specs.declared.report.Watch.{Watch}
use Rattle.pool_law.specs.Places.{IsInPlace}
use Rattle.pool_law.specs.Roots.{Present, RootPlace}
use Rattle.pool_law.specs.Histories.{place_after}
use Rattle.pool_law.specs.Leaks.{accesses}
use Rattle.pool_law.specs.Logs.{History}
use Rattle.pool_law.specs.NotedHistories.{noted_dids}
use Rattle.leak_records.specs.Records.{HasRecords}
use Rattle.handle_bin.specs.Bins.{HandleValue}

-- the root that is present, with its region's name and memory, the place's handle, and the capacity
-- that it has by now
pub record RootState : Type 0 where
  pub root : RootId
  pub region : RegionId
  pub piece : Segment
  pub handle : HandleValue
  pub capacity : ℕ

-- the generation of the last birth, and what is present
pub record PlaceState : Type 0 where
  pub generation : ℕ
  pub present : Option RootState

-- the generation of the last root that a place has a name for
abbrev pub last_generation : ℕ
last_generation = 2 ^ 32 - 1

abbrev pub new_place_state : PlaceState
new_place_state = record { generation = 0; present = None }

-- the law's root, whose bytes are the first of the region's, as many as its capacity
abbrev pub law_root : RootState → Present
law_root r =
    record { root = r.root; region = r.region; bytes = take r.capacity r.piece.bytes }

-- the law's root place
abbrev pub law_place : PlaceState → RootPlace
law_place s =
    record { generation = s.generation; present = option_map law_root s.present }

-- the watch that the last birth was given
abbrev pub watch_after : Option Watch → List Noted → Option Watch
watch_after w [] = w
watch_after w (n ∷ ns) = watch_after (watch_given w n.did n.watch) ns
  where
    watch_given : Option Watch → Did → Option Watch → Option Watch
    watch_given w (Birth root region) given = given
    watch_given w _ given = w

-- what was done, with the lanes that did it
abbrev pub lane_dids : List Noted → History
lane_dids notes = map (λ n. (unwrap_or n.lane 0, n.did)) notes

-- the root has its region's memory and the handle of its place, whose tracker holds the watch of
-- its birth and what is kept of the accesses since
pub record IsRootAt
    (grounds : Grounds) (place handles : ℕ) (notes : List Noted) (r : RootState) : Type 0 where
  pub in_place : IsInPlace grounds r.region.place r.piece
  pub fits : r.capacity ≤ r.region.place.len
  pub place_is : r.handle.place ≡ place
  pub lane_is : r.handle.lane ≡ place / handles
  pub watch : r.handle.tracker.watch ≡ watch_after None notes
  pub records : HasRecords (accesses r.root false (lane_dids notes)) r.handle.tracker

-- the notes make this root place of a new one
pub record PlaceStandsFor
    (grounds : Grounds) (place handles : ℕ) (notes : List Noted) (s : PlaceState) : Type 0 where
  pub told : place_after place (noted_dids notes) ≡ Some (law_place s)
  pub root : IfSome s.present (IsRootAt grounds place handles notes)
