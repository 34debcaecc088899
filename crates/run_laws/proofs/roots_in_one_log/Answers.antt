use Rattle.run_laws.proofs.RunLaws.{roots-in_one_log}
use Rattle.run_laws.proofs.roots_in_one_log.Goals as goal

pub returns : goal.returns
returns c = record { one_log = roots-in_one_log }
