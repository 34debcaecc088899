use Rattle.order_laws.proofs.AcceptedFronts.{fronts-accepted}
use Rattle.order_laws.proofs.fronts_are_accepted.Goals as goal

pub returns : goal.returns
returns c = record { accepted = fronts-accepted }
