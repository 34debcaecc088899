-- Free runs, and the memory that each has. No public clause cites this module.
use Rattle.std.specs.Prelude.{◌≡◌, ℕ, ◌+◌, ◌*◌, ◌^◌, ◌<◌, ◌≤◌, length}
use Rattle.ground.specs.Ground.{Segment}
use Rattle.size_classes.specs.Spans.{Span}
use Rattle.run_map.specs.declared.runs.FreeRun.{FreeRun}
use Rattle.run_map.specs.declared.runs.RunLayout.{RunLayout}

abbrev pub span_of_run : FreeRun → Span
span_of_run r = (r.first, r.pages)

pub record IsRunLayout (l : RunLayout) : Type 0 where
  pub page : 0 < l.page
  pub size : l.pages * l.page ≤ 2 ^ 24

-- s is so many pages of the chunk, from the page `first` on
pub record IsPart (l : RunLayout) (first pages : ℕ) (s : Segment) : Type 0 where
  pub origin : s.origin ≡ l.site.origin
  pub start : s.start ≡ first * l.page
  pub size : length s.bytes ≡ pages * l.page

-- the memory of r is its pages of the chunk
pub record IsRun (l : RunLayout) (r : FreeRun) : Type 0 where
  pub part : IsPart l r.first r.pages r.piece
  pub some : 0 < r.pages
  pub within : r.first + r.pages ≤ l.pages
