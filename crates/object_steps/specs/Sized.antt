-- What the program keeps of size classes. No public clause cites this module.
use Rattle.std.specs.Prelude.{◌≡◌}
use Rattle.size_classes.specs.Sizes.{Geometry, IsGeometry, of_pages, page_classes}
use Rattle.object_steps.specs.declared.sizes.Sizes.TheInside.{Inside}

abbrev pub geometry_in : Inside → Geometry
geometry_in s = of_pages s.order s.page

-- the tables are of one geometry
pub record AreSizes (s : Inside) : Type 0 where
  pub geometry : IsGeometry (geometry_in s)
  pub classes : s.classes ≡ geometry_in s
  pub pages : s.pages.items ≡ page_classes (geometry_in s)
