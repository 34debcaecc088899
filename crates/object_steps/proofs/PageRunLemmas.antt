-- What runs that are walked through keep.
use Rattle.std.proofs.Common.{◌≡◌, ℕ, ◌++◌, Bool, None}
use Rattle.std.specs.Prelude.{if◌then◌else◌}
use Rattle.size_classes.specs.Pages.{Run, replaced, run_at}
use Rattle.pool_law.specs.Chunks.{Use, Chunk}

-- from a page on, all runs are those before, which were passed, and those behind, in which so many pages are left
pub record Walked (page : ℕ) (runs : Chunk) (left : ℕ) (exact : Bool) (before behind : Chunk) : Type 0 where
  pub replaced : (by : Run Use → Chunk) → replaced page by runs ≡ before ++ replaced left by behind
  pub found : run_at page runs ≡ (if exact then run_at left behind else None)
