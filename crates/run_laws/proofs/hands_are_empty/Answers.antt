use Rattle.run_laws.proofs.HandLaw.{log-empty}
use Rattle.run_laws.proofs.hands_are_empty.Goals as goal

pub returns : goal.returns
returns c = record { empty = log-empty }
