-- The orders are computed.
use Rattle.std.proofs.Common.{refl}
use Rattle.definition_rows.specs.OrderedRuns.{two_lanes}
use Rattle.definition_rows.proofs.OrderedSteps.{all-ordered}
use Rattle.definition_rows.proofs.orders.two_lanes_in_order.Goals as goal

pub returns : goal.returns
returns c = record { stand = all-ordered two_lanes refl }
