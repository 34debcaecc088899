-- The measures of a pool, and what they may be.
use Rattle.std.specs.Prelude.{ℕ, ◌-◌, ◌*◌, ◌^◌, ◌≤◌, Bool, nat_lt, if◌then◌else◌}
use Rattle.size_classes.specs.Sizes.{Geometry, IsPage, of_pages, chunk_bytes}
use Rattle.size_classes.specs.declared.TheConstants.{CACHED_CLASSES, SMALL_CACHE_CAPACITY, NORMAL_CACHE_CAPACITY}
use Rattle.pool_law.specs.declared.run.Shape.{Shape}

-- what the sizes are made from
abbrev pub geometry_of : Shape → Geometry
geometry_of shape = of_pages shape.order shape.page

-- a shape inside the limits
pub record IsShape (shape : Shape) : Type 0 where
  pub page : IsPage shape.page
  pub order_least : 3 ≤ shape.order
  pub order_most : shape.order ≤ 11
  pub chunk : chunk_bytes (geometry_of shape) ≤ 2 ^ 24
  pub arenas_least : 1 ≤ shape.arenas
  pub arenas_most : shape.arenas ≤ 8
  pub chunks_least : 1 ≤ shape.chunks
  pub chunks_most : shape.chunks ≤ 8
  pub memory : shape.arenas * (shape.chunks * chunk_bytes (geometry_of shape)) ≤ 2 ^ 29
  pub handles_least : 1 ≤ shape.handles
  pub handles_most : shape.handles ≤ 4096
  pub lanes_least : 1 ≤ shape.lanes
  pub lanes_most : shape.lanes ≤ 16
  pub interval_least : 1 ≤ shape.interval
  pub interval_most : shape.interval ≤ 65536

-- the classes that have a cache are those below this
abbrev pub cached_classes : ℕ
cached_classes = CACHED_CLASSES

-- a class has a cache
abbrev pub has_cache : ℕ → Bool
has_cache class = nat_lt class cached_classes

-- how many regions a cache holds: fewer in the last of them
abbrev pub cache_capacity : ℕ → ℕ
cache_capacity class =
    if nat_lt class (CACHED_CLASSES - 1) then SMALL_CACHE_CAPACITY else NORMAL_CACHE_CAPACITY
