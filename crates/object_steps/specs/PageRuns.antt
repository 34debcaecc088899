-- The runs of a chunk around a page.
use Rattle.std.specs.Prelude.{◌≡◌, ℕ, if◌then◌else◌, ◌++◌, None}
use Rattle.size_classes.specs.Pages.{Run, replaced, run_at}
use Rattle.pool_law.specs.Chunks.{Use, Chunk}
use Rattle.object_steps.specs.declared.page_runs.PageRuns.{PageRuns}
use Rattle.object_steps.specs.Runs.{made_of}

-- the runs before the one that is replaced at a page, that one, whether it begins there, and those behind
pub record ArePageRuns (at : ℕ) (runs : Chunk) (s : PageRuns) : Type 0 where
  pub replaced : (by : Run Use → Chunk) →
      replaced at by runs ≡ s.before.items ++ (made_of by s.here ++ s.behind.items)
  pub found : run_at at runs ≡ (if s.exact then s.here else None)
