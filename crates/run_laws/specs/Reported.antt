-- What the leak report lists: the sampled roots that were never freed.
use Rattle.std.specs.Prelude.{◌≡◌, ◌⊎◌, ℕ, ◌+◌, ◌<◌, IsTrue, Some, slice_get}
use Rattle.pool_law.specs.declared.id.RootId.{RootId}
use Rattle.pool_law.specs.declared.note.RefDid.{RefDid}
use Rattle.pool_law.specs.declared.report.Leak.{Leak}
use Rattle.pool_law.specs.declared.run.Run.{Run}
use Rattle.pool_law.specs.Logs.{Logs, of_lane}
use Rattle.pool_law.specs.Legal.{logs_of}
use Rattle.pool_law.specs.Leaks.{births, is_sampled, leak_of}
use Rattle.run_laws.specs.OneLog.{Counted}

-- no release ended the root's count
abbrev pub NeverFreed : Logs → RootId → Type 0
NeverFreed logs root = Counted logs root RefDid.Ended → ⊥

-- a leak tells of a root that was born in its lane with its serial, is sampled, and was never freed
pub record IsLeak (run : Run) (leak : Leak) : Type 0 where
  pub root : RootId
  pub earlier : ℕ  -- so many roots were born in the lane before it
  pub born : slice_get (births (of_lane (logs_of run) leak.lane)) earlier ≡ Some root
  pub serial : leak.serial ≡ earlier + 1
  pub sampled : IsTrue (is_sampled run.shape.level run.shape.interval leak.serial)
  pub never_freed : NeverFreed (logs_of run) root
  pub told : leak ≡ leak_of run.shape.level (logs_of run) leak.lane leak.serial root

-- a leak is listed before another: of an earlier lane, or with an earlier serial of the same lane
abbrev pub ComesBefore : Leak → Leak → Type 0
ComesBefore a b = (a.lane < b.lane) ⊎ ((a.lane ≡ b.lane) × (a.serial < b.serial))

-- the report lists exactly these, by lane and then by serial, so each once
pub record ListsLeaks (run : Run) : Type 0 where
  pub only : (i : ℕ) (leak : Leak) → slice_get run.leaks i ≡ Some leak → IsLeak run leak
  pub all : (leak : Leak) → IsLeak run leak → (i : ℕ) × (slice_get run.leaks i ≡ Some leak)
  pub order : (i j : ℕ) (a b : Leak) → slice_get run.leaks i ≡ Some a →
      slice_get run.leaks j ≡ Some b → i < j → ComesBefore a b
