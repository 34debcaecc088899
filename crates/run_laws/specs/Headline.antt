-- The headline: what a legal run gives whoever uses its buffers.
use Rattle.std.specs.Prelude.{◌≡◌, ◌≢◌, ◌↔◌}
use Rattle.pool_law.specs.declared.id.RootId.{RootId}
use Rattle.pool_law.specs.declared.id.RegionId.{RegionId}
use Rattle.pool_law.specs.declared.run.Run.{Run}
use Rattle.pool_law.specs.Places.{Overlap}
use Rattle.pool_law.specs.Logs.{Logs}
use Rattle.pool_law.specs.Legal.{IsLegal, logs_of}
use Rattle.pool_law.specs.Lives.{IsUse, UseEnds, RegionsLive}
use Rattle.pool_law.specs.Apart.{IsOneUse, NeverOverlap, LieApart}
use Rattle.run_laws.specs.Conserved.{total_in, RegionsReturn, CachesEndEmpty, OutAtEnd}
use Rattle.run_laws.specs.Reads.{ReadsGiveWritten}
use Rattle.run_laws.specs.Reported.{NeverFreed, ListsLeaks}

-- two uses that never end do not overlap
abbrev pub LiveLieApart : Logs → Type 0
LiveLieApart logs =
    (first second : RootId) (a b : RegionId) → IsUse logs first a → IsUse logs second b →
    (UseEnds logs first a → ⊥) → (UseEnds logs second b → ⊥) →
    (IsOneUse first a second b → ⊥) → Overlap a.place b.place → ⊥

-- the one region that the root uses to the end
pub record LastsIn (logs : Logs) (root : RootId) : Type 0 where
  pub region : RegionId
  pub used : IsUse logs root region
  pub lasts : UseEnds logs root region → ⊥
  pub one : (other : RegionId) → IsUse logs root other → (UseEnds logs root other → ⊥) →
      other ≡ region

-- a root that was never freed uses one region to the end
abbrev pub LiveUseLasts : Logs → Type 0
LiveUseLasts logs =
    (root : RootId) (region : RegionId) → IsUse logs root region → NeverFreed logs root →
    LastsIn logs root

-- a root that was born is live, so that its total is not 0, exactly where it was never freed
abbrev pub LiveIsNeverFreed : Logs → Type 0
LiveIsNeverFreed logs =
    (root : RootId) (region : RegionId) → IsUse logs root region →
    (total_in logs root ≢ 0) ↔ NeverFreed logs root

-- what a legal run gives, whatever its trace, its lanes and their interleaving
pub record Headline (run : Run) : Type 0 where
  -- its notes and replies are those of the definitions, over which the rest is read
  pub legal : IsLegal run
  -- regions of live roots never overlap: of two uses that do, one ended before the other began
  pub never_overlap : NeverOverlap (logs_of run)
  -- for each taking lives one life, in which one use after another begins and ends
  pub one_after_another : RegionsLive (logs_of run)
  -- and of two takings whose places overlap one came back before the other was taken
  pub lie_apart : LieApart (logs_of run)
  -- so what is used at the end lies apart
  pub live_apart : LiveLieApart (logs_of run)
  -- and each root that was never freed is
  pub live_lasts : LiveUseLasts (logs_of run)
  -- each read gives the bytes last written to its root, at its view's offsets; one of a composite
  -- gives those of its parts, in order
  pub reads : ReadsGiveWritten run
  -- a root's region returns once, by the release that ends its count or the growth that replaces it,
  -- and otherwise never
  pub returns : RegionsReturn (logs_of run)
  -- a root is live exactly where it was never freed
  pub live : LiveIsNeverFreed (logs_of run)
  -- at the end exactly the regions that live roots have then are out
  pub out : OutAtEnd run.shape (logs_of run)
  -- and no cache holds one
  pub caches : CachesEndEmpty run.shape (logs_of run)
  -- the leak report lists exactly the sampled roots never freed
  pub leaks : ListsLeaks run
