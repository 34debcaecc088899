-- The tables of sizes, made row by row.
use Rattle.std.specs.Prelude.{ℕ, List, map, drop}
use Rattle.size_classes.specs.Sizes.{Geometry, size_at, pages_of, subpage_pages, element_count, class_count, below}

-- the size, the pages of a subpage and the elements of a class
abbrev pub small_row : Geometry → ℕ → ℕ × ℕ × ℕ
small_row g class = (size_at class, subpage_pages g class, element_count g class)

-- the rows of all small classes
abbrev pub small_rows : Geometry → List (ℕ × ℕ × ℕ)
small_rows g = map (small_row g) (below 39)

-- the pages of the classes from this one on
abbrev pub pages_from : ℕ → Geometry → List ℕ
pages_from class g = map (pages_of g) (drop class (below (class_count g)))
