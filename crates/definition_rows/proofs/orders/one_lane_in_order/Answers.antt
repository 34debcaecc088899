-- The orders are computed.
use Rattle.std.proofs.Common.{refl}
use Rattle.definition_rows.specs.OrderedRuns.{one_lane}
use Rattle.definition_rows.proofs.OrderedSteps.{all-ordered}
use Rattle.definition_rows.proofs.orders.one_lane_in_order.Goals as goal

pub returns : goal.returns
returns c = record { stand = all-ordered one_lane refl }
