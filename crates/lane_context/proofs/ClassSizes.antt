-- No root is born with more bytes than a view may reach.
use Rattle.std.proofs.Common.{◌≡◌, ℕ, ◌≤◌, sym, ap, ◌∙◌, subst, arith, Some}
use Rattle.size_classes.specs.Sizes.{IsGeometry, class_of}
use Rattle.size_classes.proofs.Requests.{size_at-within_chunk}
use Rattle.pool_law.specs.declared.run.Shape.{Shape}
use Rattle.pool_law.specs.Limits.{IsShape, geometry_of}
use Rattle.pool_law.specs.Views.{most_capacity}
use Rattle.pool_table.specs.declared.views.Layout.{Layout}
use Rattle.shared_pool.specs.declared.pool.SharedPool.{SharedPool}
use Rattle.seat_work.proofs.ClassLaws.{class_holds, class_inside}

pub size_most : (pool : SharedPool) (shape : Shape) → shape ≡ pool.table.layout.shape → (size class : ℕ)
    → class_of (geometry_of shape) size ≡ Some class → size ≤ most_capacity
size_most pool shape same size class is =
    let limits : IsShape shape =
    subst IsShape (sym (same ∙ ap (λ (l : Layout). l.shape) pool.same_layout)) pool.shape in
    let g : IsGeometry (geometry_of shape) = record {
      least = limits.order_least;
      most = limits.order_most;
      page = limits.page;
      chunk = limits.chunk;
    } in
    let holds = class_holds (geometry_of shape) size class is in
    let least = size_at-within_chunk (geometry_of shape) g class (class_inside (geometry_of shape) size class is) in
    let most = limits.chunk in omega (arith, holds, least, most)
