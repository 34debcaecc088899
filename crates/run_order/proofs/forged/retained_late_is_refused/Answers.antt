-- No order fits, as the search tells.
use Rattle.std.proofs.Common.{refl}
use Rattle.run_order.specs.Forged.{retained_late}
use Rattle.run_order.proofs.Stuck.{in-no_order}
use Rattle.run_order.proofs.forged.retained_late_is_refused.Goals as goal

pub returns : goal.returns
returns c = record { refused = in-no_order 24 retained_late refl }
