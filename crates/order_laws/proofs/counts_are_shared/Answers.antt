use Rattle.order_laws.proofs.ShareMoments.{fronts-are_shared}
use Rattle.order_laws.proofs.counts_are_shared.Goals as goal

pub returns : goal.returns
returns c = record { shared = fronts-are_shared }
