-- Parts that are known of stay so as a seat goes on.
use Rattle.std.proofs.Common.{◌≡◌, ℕ, ◌+◌, ◌≤◌, List, get_or}
use Rattle.std.specs.Prelude.{All}
use Rattle.std.proofs.Math.Nat.{le_trans}
use Rattle.pool_law.specs.declared.id.Part.{Part}
use Rattle.pool_table.specs.declared.views.SeatView.{SeatView}
use Rattle.seat_work.specs.Capacities.{KnowsNoLess}
use Rattle.shared_composite.specs.Cores.{IsKnown}

pub known_on : (v w : SeatView) (parts : List Part) → KnowsNoLess v w → All (IsKnown v) parts → All (IsKnown w) parts
known_on v w parts more all k p lt = le_trans (all k p lt) (more (get_or parts k p).root)
