use Rattle.run_laws.proofs.HandSums.{hands-balance}
use Rattle.run_laws.proofs.hands_balance.Goals as goal

pub returns : goal.returns
returns c = record { balance = hands-balance }
