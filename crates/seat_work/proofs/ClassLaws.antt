-- The class of a request is one of the pool's, and holds it.
use Rattle.std.proofs.Common.{◌≡◌, ℕ, ◌<◌, ◌≤◌, true, List, length, get_or, Some, sym, subst, arith}
use Rattle.std.specs.Prelude.{Bool, IfOk, Result, Ok, Err, position, nat_le}
use Rattle.std.proofs.lemmas.List.Quantifiers.{position-Some}
use Rattle.std.proofs.lemmas.Bool.{leb-true}
use Rattle.size_classes.specs.Sizes.{Geometry, IsGeometry, class_count, class_of, size_at, sizes}
use Rattle.size_classes.proofs.Geometries.{class_count-most}
use Rattle.size_classes.proofs.Powers.{length-first_sizes, first_sizes-at, size_at-fits}
use Rattle.pool_law.specs.declared.id.RootId.{RootId}
use Rattle.pool_law.specs.declared.run.Shape.{Shape}
use Rattle.pool_law.specs.Limits.{IsShape, geometry_of}
use Rattle.pool_law.specs.Views.{most_capacity}
use Rattle.pool_table.specs.declared.views.Layout.{Layout}
use Rattle.pool_table.specs.Counts.{HasCount}
use Rattle.shared_pool.specs.declared.pool.SharedPool.{SharedPool}
use Rattle.shared_pool.specs.declared.seat.PoolSeat.{PoolSeat}
use Rattle.shared_pool.specs.SeatViews.{view_of}
use Rattle.seat_work.specs.declared.allocation.AllocNo.{AllocNo}

-- a place that was found is inside, and passes
found : (p : ℕ → Bool) (xs : List ℕ) (k : ℕ) → position p xs ≡ Some k → (k < length xs) × (p (get_or xs k 0) ≡ true)
found p xs k e = let all = position-Some p xs k 0 e in (all.0, all.1)

pub class_inside : (g : Geometry) (n class : ℕ) → class_of g n ≡ Some class → class < class_count g
class_inside g n class e =
    let a = (found (λ size. nat_le n size) (sizes g) class e).0 in let b = length-first_sizes (class_count g) in
    omega (arith, a, b)

pub class_holds : (g : Geometry) (n class : ℕ) → class_of g n ≡ Some class → n ≤ size_at class
class_holds g n class e =
    leb-true n (size_at class)
    (subst (λ (size : ℕ). nat_le n size ≡ true) (first_sizes-at (class_count g) class 0 (class_inside g n class e))
    (found (λ size. nat_le n size) (sizes g) class e).1)

-- and is no more than a root may have
shape_geometry : (shape : Shape) → IsShape shape → IsGeometry (geometry_of shape)
shape_geometry shape is = record {
  least = is.order_least;
  most = is.order_most;
  page = is.page;
  chunk = is.chunk;
}

pub class_small : (pool : SharedPool) (n class : ℕ) → class_of (geometry_of pool.table.layout.shape) n ≡ Some class
    → n ≤ most_capacity
class_small pool n class e =
    let g = geometry_of pool.table.layout.shape in
    let is : IsGeometry g = subst (λ (l : Layout). IsGeometry (geometry_of l.shape)) (sym pool.same_layout)
    (shape_geometry pool.layout.shape pool.shape) in
    let inside = class_inside g n class e in let most = class_count-most g is in let holds = class_holds g n class e in
    let fits = size_at-fits class (omega (arith, inside, most)) in
    omega (arith, holds, fits)

pub if_small : (pool : SharedPool) (s : PoolSeat) (size class : ℕ) (r : Result RootId AllocNo)
    → class_of (geometry_of pool.table.layout.shape) size ≡ Some class
    → IfOk r (λ root. (root.capacity ≡ size) × HasCount root (view_of s))
    → IfOk r (λ root. root.capacity ≤ most_capacity)
if_small pool s size class (Ok root) e is =
    let a = is.0 in let b = class_small pool size class e in omega (arith, a, b)
if_small pool s size class (Err why) e is = tt

-- a root of so many bytes that is counted has so many
pub if_sized : (size : ℕ) (s : PoolSeat) (r : Result RootId AllocNo)
    → IfOk r (λ root. (root.capacity ≡ size) × HasCount root (view_of s)) → IfOk r (λ root. root.capacity ≡ size)
if_sized size s (Ok root) is = is.0
if_sized size s (Err why) is = tt
