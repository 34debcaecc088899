-- What contracts see of a `RunMap`.
use Rattle.std.specs.Prelude.{◌≡◌, ℕ, ◌*◌, ◌/◌, ◌%◌, ◌^◌, List, [], ◌∷◌, length, Some}
use Rattle.ground.specs.Ground.{Origin, Segment, IsWhole}
use Rattle.size_classes.specs.Sizes.{Geometry, IsPage, of_pages}
use Rattle.size_classes.specs.Pages.{chosen}
use Rattle.size_classes.specs.Spans.{Span, taken_from, AreApart, IsOut}

-- the free runs of a chunk of 2 ^ order pages, in order of offset, and the ground of the chunk
pub record FreeRuns : Type 0 where
  pub origin : Origin
  pub page : ℕ
  pub order : ℕ
  pub runs : List Span

abbrev pub with_runs : FreeRuns → List Span → FreeRuns
with_runs m runs = record m { runs = runs }

-- the sizes of the chunk
abbrev pub geometry_in : FreeRuns → Geometry
geometry_in m = of_pages m.order m.page

-- a whole ground that is 2 ^ order pages
pub record IsPagesGround (order : ℕ) (s : Segment) : Type 0 where
  pub whole : IsWhole s
  pub pages : s.origin.size % 2 ^ order ≡ 0
  pub page : IsPage (s.origin.size / 2 ^ order)

-- the map of a chunk that is all free
abbrev pub all_free : ℕ → Segment → FreeRuns
all_free order s = record {
  origin = s.origin;
  page = s.origin.size / 2 ^ order;
  order = order;
  runs = (0, 2 ^ order) ∷ [];
}

-- the run that s is
abbrev pub span_of : ℕ → Segment → Span
span_of page s = (s.start / page, length s.bytes / page)

-- s is whole pages of this ground
pub record IsPages (m : FreeRuns) (s : Segment) : Type 0 where
  pub origin : s.origin ≡ m.origin
  pub start : s.start % m.page ≡ 0
  pub size : length s.bytes % m.page ≡ 0

-- s is so many pages of the chunk, from the page `first` on
pub record IsRunOf (m : FreeRuns) (first pages : ℕ) (s : Segment) : Type 0 where
  pub origin : s.origin ≡ m.origin
  pub start : s.start ≡ first * m.page
  pub size : length s.bytes ≡ pages * m.page

-- so many pages were taken from the front of the run that the rule chooses
pub record IsTaken (before after : FreeRuns) (pages : ℕ) (s : Segment) (offset : ℕ) : Type 0 where
  pub long : ℕ
  pub run : chosen (geometry_in before) pages before.runs ≡ Some (offset, long)
  pub piece : IsRunOf before offset pages s
  pub rest : after ≡ with_runs before (taken_from offset pages before.runs)

-- s is whole pages of this ground that are out: what may be given back
pub record ArePagesOut (m : FreeRuns) (s : Segment) : Type 0 where
  pub pages : IsPages m s
  pub out : IsOut (2 ^ m.order) m.runs (span_of m.page s)

-- what is out stays out
abbrev pub KeepsOut : FreeRuns → FreeRuns → Type 0
KeepsOut before after = (s : Segment) → ArePagesOut before s → ArePagesOut after s

-- what is out stays out, but for what has a page of r
abbrev pub KeepsOutBut : Span → FreeRuns → FreeRuns → Type 0
KeepsOutBut r before after =
    (s : Segment) →
    AreApart (span_of before.page s) r → ArePagesOut before s → ArePagesOut after s
