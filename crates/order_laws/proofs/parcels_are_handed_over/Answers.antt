use Rattle.run_order.proofs.HandOver.{handed_over}
use Rattle.order_laws.proofs.parcels_are_handed_over.Goals as goal

pub returns : goal.returns
returns c = record { handed = handed_over }
