-- What a seat knows of capacities, as it goes on.
use Rattle.std.specs.Prelude.{ℕ, ◌≤◌}
use Rattle.pool_law.specs.declared.id.RootId.{RootId}
use Rattle.pool_law.specs.Views.{most_capacity}
use Rattle.pool_table.specs.declared.views.SeatView.{SeatView}
use Rattle.pool_table.specs.Capacities.{knows_of}

-- the view knows no less of any root's capacity
abbrev pub KnowsNoLess : SeatView → SeatView → Type 0
KnowsNoLess old new = (root : RootId) → knows_of root old ≤ knows_of root new

-- so much capacity of a root is no less than the view knew of and no more than it knows of now, and
-- is what a root may have
pub record IsLearned (root : RootId) (capacity : ℕ) (old new : SeatView) : Type 0 where
  pub knew : knows_of root old ≤ capacity
  pub knows : capacity ≤ knows_of root new
  pub most : capacity ≤ most_capacity
