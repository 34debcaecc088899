-- No order fits, as the search tells of each.
use Rattle.std.proofs.Common.{refl}
use Rattle.run_order.specs.ForgedSteps.{forged_steps}
use Rattle.run_order.proofs.Stuck.{in-no_orders}
use Rattle.run_order.proofs.forged.forged_steps_are_refused.Goals as goal

pub returns : goal.returns
returns c = record { refused = in-no_orders 24 forged_steps refl }
