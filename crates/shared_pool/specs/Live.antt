-- What the close tells of the sampled roots that are live.
use Rattle.std.specs.Prelude.{◌≡◌, ℕ, ◌<◌, true, if◌then◌else◌, List, [], map, Some, All, AllPairs, slice_get}
use Rattle.pool_law.specs.declared.id.RootId.{RootId}
use Rattle.pool_law.specs.declared.id.RegionId.{RegionId}
use Rattle.pool_law.specs.declared.note.Did.{Did}
use Rattle.pool_law.specs.declared.note.Noted.{Noted}
use Rattle.pool_law.specs.declared.note.Object.TheVariants.{Root}
use Rattle.pool_law.specs.declared.report.Watch.{Watch}
use Rattle.pool_law.specs.Logs.{of_lane}
use Rattle.pool_law.specs.Counts.{total_of}
use Rattle.pool_law.specs.Leaks.{accesses_to, kept_of, dropped_of, capacity_at_end, is_live}
use Rattle.leak_records.specs.declared.live.LiveRoot.{LiveRoot}
use Rattle.pool_table.specs.declared.views.Entry.TheVariants.{At}
use Rattle.pool_table.specs.declared.views.Part.{Part}
use Rattle.shared_pool.specs.Closing.{logs_in, entries_in}

-- a part has the birth of the root, which was given this watch
pub record WasWatched (parts : List Part) (root : RootId) (watch : Watch) : Type 0 where
  pub lane : ℕ
  pub at : ℕ
  pub number : ℕ
  pub region : RegionId
  pub noted : Noted
  pub stands : slice_get (of_lane (map (λ p. p.notes) parts) lane) at
      ≡ Some (At (Root root.place) number noted)
  pub birth : noted.did ≡ Did.Birth root region
  pub given : noted.watch ≡ Some watch

-- the root is live at the end, and its birth was given this watch
pub record IsLive (parts : List Part) (x : RootId × Watch) : Type 0 where
  pub watched : WasWatched parts x.0 x.1
  pub live : is_live (logs_in parts) x.0 ≡ true

-- what is told of a live root
abbrev pub live_of : List Part → RootId → Watch → LiveRoot
live_of parts root watch =
    let all = accesses_to root (logs_in parts) in
    record {
      capacity = capacity_at_end root (logs_in parts);
      count = total_of root (entries_in parts);
      watch = watch;
      records = (if watch.keeps then kept_of all else []);
      dropped = (if watch.keeps then dropped_of all else 0);
    }

-- each live root that is watched is told, once, by root place
pub record AreLiveRoots (parts : List Part) (live : List LiveRoot) : Type 0 where
  pub roots : List (RootId × Watch)
  pub told : live ≡ map (λ x. live_of parts x.0 x.1) roots
  pub each : All (IsLive parts) roots
  pub all : (x : RootId × Watch) → IsLive parts x → (k : ℕ) × (slice_get roots k ≡ Some x)
  pub by_place : AllPairs (λ x y. x.0.place < y.0.place) roots
