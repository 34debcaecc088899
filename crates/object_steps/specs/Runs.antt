-- Runs of a chunk as the program keeps them.
use Rattle.std.specs.Prelude.{◌⊎◌, ◌≡◌, ℕ, ◌<◌, ◌≤◌, ◌^◌, [], Option, Some, None}
use Rattle.size_classes.specs.Pages.{Run, Free, Used, total_pages, NoneEmpty, run_at}
use Rattle.size_classes.specs.Runs.{Begins}
use Rattle.pool_law.specs.Chunks.{Use, Whole, Sub, Chunk}
use Rattle.object_steps.specs.declared.run.Kind.{Kind}
use Rattle.object_steps.specs.declared.run.Purpose.{Purpose}

-- what a run in use is for
abbrev pub use_of : Purpose → Use
use_of Purpose.Whole = Whole
use_of (Purpose.Sub class elements) = Sub class elements

-- a run of so many pages
abbrev pub run_of : ℕ → Kind → Run Use
run_of pages Kind.Free = Free pages
run_of pages (Kind.Used what) = Used pages (use_of what)

-- the runs are few enough to count, and none is empty
pub record AreRuns (runs : Chunk) : Type 0 where
  pub few : total_pages runs ≤ 2 ^ 16
  pub none_empty : NoneEmpty runs

-- a free run of at least so many pages begins at a page
pub record HasRoom (at pages : ℕ) (runs : Chunk) : Type 0 where
  pub free : ℕ
  pub few : free ≤ 2 ^ 16
  pub begins : Begins at (Free free) runs
  pub found : run_at at runs ≡ Some (Free free)
  pub enough : pages ≤ free
  pub some : 0 < pages

-- a number of pages stands for another: it is the same, or no run of a chunk has either
abbrev pub IsCapped : ℕ → ℕ → Type 0
IsCapped wanted pages = (wanted ≡ pages) ⊎ ((2 ^ 16 < wanted) × (2 ^ 16 < pages))

-- what a run is replaced by, if there is one
abbrev pub made_of : (Run Use → Chunk) → Option (Run Use) → Chunk
made_of by None = []
made_of by (Some r) = by r
