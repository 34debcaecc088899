use Rattle.run_laws.proofs.RunLaws.{totals-are_shared}
use Rattle.run_laws.proofs.totals_are_shared.Goals as goal

pub returns : goal.returns
returns c = record { shared = totals-are_shared }
