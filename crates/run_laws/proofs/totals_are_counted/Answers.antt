use Rattle.run_laws.proofs.CountSums.{total-is_counted}
use Rattle.run_laws.proofs.totals_are_counted.Goals as goal

pub returns : goal.returns
returns c = record { counted = total-is_counted }
