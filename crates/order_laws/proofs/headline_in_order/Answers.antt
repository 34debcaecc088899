use Rattle.order_laws.proofs.HeadlineInOrderLaw.{headline-in_order}
use Rattle.order_laws.proofs.headline_in_order.Goals as goal

pub returns : goal.returns
returns c = record { moments = headline-in_order }
