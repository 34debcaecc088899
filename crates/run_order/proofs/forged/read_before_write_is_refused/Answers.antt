-- No order fits, as the search tells.
use Rattle.std.proofs.Common.{refl}
use Rattle.run_order.specs.Forged.{read_before_write}
use Rattle.run_order.proofs.Stuck.{in-no_order}
use Rattle.run_order.proofs.forged.read_before_write_is_refused.Goals as goal

pub returns : goal.returns
returns c = record { refused = in-no_order 24 read_before_write refl }
