-- What is read off the home values and the words of a closed table. No public clause cites this
-- module.
use Rattle.std.specs.Prelude.{◌≡◌, ℕ, ◌+◌, ◌*◌, ◌/◌, ◌%◌, ◌<◌, ◌≤◌, List, [], ◌∷◌, ◌++◌, length, Option, Some, None, IfSome, option_map, unwrap_or, slice_get, slice_index}
use Rattle.pool_law.specs.declared.report.ChunkEnd.{ChunkEnd}
use Rattle.pool_law.specs.declared.report.Watch.{Watch}
use Rattle.pool_law.specs.declared.run.Shape.{Shape}
use Rattle.pool_law.specs.Arenas.{listed, chunk_ends}
use Rattle.pool_law.specs.Homes.{lane_homes, objects_of}
use Rattle.leak_records.specs.declared.live.LiveRoot.{LiveRoot}
use Rattle.pool_arena.specs.ArenaStates.{ArenaState, law_of}
use Rattle.shared_pool.specs.RootPlaces.{RootState, PlaceState}
use Rattle.shared_pool.specs.declared.home.Home.{Home}
use Rattle.shared_pool.specs.declared.home.Home.TheVariants.{Arena, Root}

-- ---- The chunks that are in a list.

-- those of an arena
abbrev pub arena_chunks : ArenaState → List ChunkEnd
arena_chunks a = chunk_ends a.geometry a.number (law_of a [])

-- those of the arena at a place of the list, if one is there
abbrev pub chunks_in : Option (Option Home) → List ChunkEnd
chunks_in (Some (Some (Arena a))) = arena_chunks a.value
chunks_in _ = []

-- those of the arenas with these numbers
abbrev pub chunks_from : List (Option Home) → List ℕ → List ChunkEnd
chunks_from homes [] = []
chunks_from homes (number ∷ numbers) =
    chunks_in (slice_get homes number) ++ chunks_from homes numbers

-- the value is an arena with so many chunk places
abbrev pub IsArenaOf : ℕ → Option (Option Home) → Type 0
IsArenaOf chunks (Some (Some (Arena a))) = chunks ≡ length a.value.chunks
IsArenaOf chunks _ = ⊥

-- the first values are the arenas
abbrev pub AreArenas : Shape → List (Option Home) → Type 0
AreArenas s homes = (number : ℕ) → number < s.arenas → IsArenaOf s.chunks (slice_get homes number)

-- ---- The sampled roots that are live.

-- the count in a word of counts
abbrev pub count_in : ℕ → ℕ
count_in word = word % 4294967296 / 2

-- what is told of a root with this watch
abbrev pub told_with : ℕ → RootState → Watch → LiveRoot
told_with count r watch =
    record {
      capacity = r.capacity;
      count = count;
      watch = watch;
      records = r.handle.tracker.kept;
      dropped = r.handle.tracker.dropped;
    }

-- and of a root, if it is watched
abbrev pub told_of : ℕ → RootState → List LiveRoot
told_of count r = listed r.handle.tracker.watch (told_with count r)

-- and of a root place
abbrev pub told_in : PlaceState → ℕ → List LiveRoot
told_in s count = unwrap_or (option_map (told_of count) s.present) []

abbrev pub told_here : Option Home → ℕ → List LiveRoot
told_here (Some (Root s)) count = told_in s.value count
told_here _ count = []

-- at most four accesses are kept of the root that is present
abbrev pub KeepsFew : PlaceState → Type 0
KeepsFew s = IfSome s.present (λ r. length r.handle.tracker.kept ≤ 4)

-- the value is a root place
abbrev pub IsPlaceHere : Option Home → Type 0
IsPlaceHere (Some (Root s)) = KeepsFew s.value
IsPlaceHere _ = ⊥

-- where the first root place stands among the home values
abbrev pub first_place : Shape → ℕ
first_place s = s.arenas + s.lanes * lane_homes

-- what is told of the root places with these numbers
abbrev pub told_from : Shape → List (Option Home) → List ℕ → List ℕ → List LiveRoot
told_from s homes words [] = []
told_from s homes words (place ∷ places) =
    told_here (unwrap_or (slice_get homes (first_place s + place)) None)
    (count_in (slice_index words (objects_of s + place)))
    ++ told_from s homes words places

-- the last values are the root places
abbrev pub ArePlaces : Shape → List (Option Home) → Type 0
ArePlaces s homes = (place : ℕ) → place < s.lanes * s.handles →
    IfSome (slice_get homes (first_place s + place)) IsPlaceHere
