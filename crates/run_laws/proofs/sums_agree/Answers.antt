use Rattle.run_laws.proofs.RegroupLaw.{sums-agree}
use Rattle.run_laws.proofs.sums_agree.Goals as goal

pub returns : goal.returns
returns c = record { agree = sums-agree }
