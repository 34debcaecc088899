-- What a seat knows of the capacity of a root.
use Rattle.std.specs.Prelude.{◌≡◌, ℕ, ◌≤◌}
use Rattle.size_classes.specs.Sizes.{chunk_bytes}
use Rattle.pool_law.specs.declared.id.RootId.{RootId}
use Rattle.pool_law.specs.declared.id.ViewData.{ViewData}
use Rattle.pool_law.specs.Limits.{geometry_of}
use Rattle.pool_law.specs.Views.{LiesIn}
use Rattle.pool_table.specs.declared.views.SeatView.{SeatView}
use Rattle.pool_table.specs.Capacities.{knows_of}
use Rattle.shared_pool.specs.SeatViews.{view_of}
use Rattle.shared_pool.specs.declared.pool.SharedPool.{SharedPool}
use Rattle.shared_pool.specs.declared.seat.PoolSeat.{PoolSeat}

-- a view reaches no further than what is known of its root's capacity
abbrev pub ReachesKnown : SeatView → ViewData → Type 0
ReachesKnown v w = LiesIn (knows_of w.root v) w

-- the seat knows so much of the root's capacity and no more, which is at most a chunk
abbrev pub KnowsOf : SharedPool → PoolSeat → RootId → ℕ → Type 0
KnowsOf pool s root capacity =
    (knows_of root (view_of s) ≡ capacity)
    × (capacity ≤ chunk_bytes (geometry_of pool.table.layout.shape))
