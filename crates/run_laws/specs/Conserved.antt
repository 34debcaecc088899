-- What a legal run keeps: its caches end empty, each region that a root leaves returns once, and what
-- the arenas have out at the end is what the live roots use.
use Rattle.std.specs.Prelude.{◌≡◌, ◌≢◌, ◌⊎◌, ◌↔◌, ℕ, ◌+◌, ◌<◌, ◌≤◌, IsTrue, [], Some}
use Rattle.pool_law.specs.declared.id.RootId.{RootId}
use Rattle.pool_law.specs.declared.id.RegionId.{RegionId}
use Rattle.pool_law.specs.declared.note.Object.{Object}
use Rattle.pool_law.specs.declared.note.Did.{Did}
use Rattle.pool_law.specs.declared.note.RefDid.{RefDid}
use Rattle.pool_law.specs.declared.note.Note.{Note}
use Rattle.pool_law.specs.declared.run.Shape.{Shape}
use Rattle.pool_law.specs.Limits.{cached_classes}
use Rattle.pool_law.specs.Same.{same_taking}
use Rattle.pool_law.specs.Arenas.{Arena, is_out_of}
use Rattle.pool_law.specs.Caches.{Cache}
use Rattle.pool_law.specs.Histories.{arena_after, cache_after}
use Rattle.pool_law.specs.Logs.{Logs, dids, history_of, entries_of}
use Rattle.pool_law.specs.Counts.{total_of}
use Rattle.arena_laws.specs.Slots.{EachOf}
use Rattle.pool_law.specs.Lives.{StandsAt, IsUse, UseEnds, GrowsOut, Done, cache_of, arena_of}
use Rattle.run_laws.specs.OneLog.{Counted, CountedOnce}

-- the cache of a lane and class, and an arena, at the end of the run
abbrev pub EndsAsCache : Logs → ℕ → ℕ → Cache → Type 0
EndsAsCache logs lane class c =
    cache_after lane class (dids (history_of (Object.Cache lane class) logs)) ≡ Some c

abbrev pub EndsAsArena : Shape → Logs → ℕ → Arena → Type 0
EndsAsArena shape logs number a =
    arena_after shape number (dids (history_of (Object.Arena number) logs)) ≡ Some a

-- each cache comes to an end, and is empty there
abbrev pub CachesEndEmpty : Shape → Logs → Type 0
CachesEndEmpty shape logs =
    (lane class : ℕ) → lane < shape.lanes → class < cached_classes →
    (c : Cache) × (EndsAsCache logs lane class c × (c.regions ≡ []))

abbrev pub total_in : Logs → RootId → ℕ
total_in logs root = total_of root (entries_of logs)

-- this does not stand before this place of the log
abbrev pub NotBefore : (logs : Logs) → Object → Did → ℕ → ℕ → Type 0
NotBefore logs object did lane at =
    (d : Done logs object did) → d.lane ≡ lane → d.at < at → ⊥

-- a region returns, after so many uses: at this place of a log its owner's cache keeps it, or its
-- arena gets it; and not from that cache, by a hit that no use followed or by a shed
pub record Returned (logs : Logs) (region : RegionId) : Type 0 where
  pub lane : ℕ
  pub at : ℕ
  pub number : ℕ
  pub is : StandsAt logs lane at (Note.At (cache_of region) number (Did.Kept region))
      ⊎ StandsAt logs lane at (Note.At (arena_of region) number (Did.Give region))
  pub not_hit : NotBefore logs (cache_of region) (Did.Hit region) lane at
  pub not_shed : NotBefore logs (cache_of region) (Did.Shed region) lane at

-- the region of a root returns once, by the release that ends the root's count or the growth that
-- replaces the region, and otherwise never
pub record ReturnsOnce (logs : Logs) (root : RootId) (region : RegionId) : Type 0 where
  pub exactly : Returned logs region
      ↔ (Counted logs root RefDid.Ended ⊎ GrowsOut logs root region)
  pub once : (a b : Returned logs region) → (a.lane ≡ b.lane) × (a.at ≡ b.at)
  -- it stands behind the growth in its log, within two notes
  pub after_growth : (a : Returned logs region) (growth : GrowsOut logs root region) →
      (growth.lane ≡ a.lane) × (growth.at < a.at) × (a.at ≤ growth.at + 2)
  -- the region that the root has last returns behind that release in its log, within four notes
  pub after : (GrowsOut logs root region → ⊥) → (a : Returned logs region) →
      (release : Counted logs root RefDid.Ended) →
      (release.lane ≡ a.lane) × (release.at < a.at) × (a.at ≤ release.at + 4)
  pub ended_once : CountedOnce logs root RefDid.Ended
  -- which is exactly where the root's total is 0
  pub at_zero : (GrowsOut logs root region → ⊥) →
      Returned logs region ↔ (total_in logs root ≡ 0)

abbrev pub RegionsReturn : Logs → Type 0
RegionsReturn logs =
    (root : RootId) (region : RegionId) → IsUse logs root region → ReturnsOnce logs root region

-- a root uses this taking to the end, and has a total that is not 0
pub record IsHeld (logs : Logs) (taking : RegionId) : Type 0 where
  pub root : RootId
  pub region : RegionId
  pub used : IsUse logs root region
  pub same : IsTrue (same_taking region taking)
  pub lasts : UseEnds logs root region → ⊥
  pub live : total_in logs root ≢ 0

-- what an arena has out at the end
pub record OutIsHeld (logs : Logs) (number : ℕ) (a : Arena) : Type 0 where
  -- each of it is the taking of a live root
  pub held : EachOf (IsHeld logs) a.out
  -- and the taking that each live root uses to the end, where its place names the arena, is among it
  pub out : (root : RootId) (region : RegionId) → IsUse logs root region →
      (UseEnds logs root region → ⊥) → total_in logs root ≢ 0 → region.place.arena ≡ number →
      IsTrue (is_out_of a region)

-- each arena comes to an end, and has out there exactly what live roots use
abbrev pub OutAtEnd : Shape → Logs → Type 0
OutAtEnd shape logs =
    (number : ℕ) → (a : Arena) × (EndsAsArena shape logs number a × OutIsHeld logs number a)
