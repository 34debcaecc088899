-- What the tables of a `SizeClasses` hold. No public clause cites this module.
use Rattle.std.specs.Prelude.{◌≡◌, ℕ, ◌≤◌, length, slice_index}
use Rattle.size_classes.specs.Sizes.{Geometry, IsGeometry, of_pages, page_shift, class_count, sizes}
use Rattle.size_classes.specs.PageCounts.{IsFirstAtLeast}
use Rattle.size_classes.specs.declared.classes.SizeClasses.TheInside.{Inside}

-- the geometry that the tables are of
abbrev pub geometry_in : Inside → Geometry
geometry_in s = of_pages s.order s.page

-- the first 257 places have the class of so many times 16 bytes
abbrev pub AreRequests : Inside → Type 0
AreRequests s = (units : ℕ) → units ≤ 256 → IsFirstAtLeast units (slice_index s.requests.items units)

-- the tables are the sizes, and the classes of the small requests
pub record AreTables (s : Inside) : Type 0 where
  pub geometry : IsGeometry (geometry_in s)
  pub shift : s.shift ≡ page_shift s.page
  pub count : length s.sizes.items ≡ class_count (geometry_in s)
  pub all : s.sizes.items ≡ sizes (geometry_in s)
  pub tabled : length s.requests.items ≡ 257
  pub requests : AreRequests s
