-- A run that is taken as a whole.
use Rattle.std.proofs.Common.{ℕ}
use Rattle.size_classes.specs.Sizes.{Geometry, IsGeometry, IsPageClass}
use Rattle.size_classes.proofs.PageClasses.{page_class-within}
use Rattle.pool_arena.specs.declared.place.Wanted.{Wanted}
use Rattle.pool_arena.specs.Places.{IsWanted}

-- the pages of a normal class are some, and no more than a chunk has
pub whole-wanted : (g : Geometry) → IsGeometry g → (pages : ℕ) → IsPageClass g pages → IsWanted g (Wanted.Run pages)
whole-wanted g sizes pages page_class = ((page_class-within g sizes pages page_class).1, page_class)
