use Rattle.run_laws.proofs.RunLaws.{roots-never_overlap}
use Rattle.run_laws.proofs.roots_never_overlap.Goals as goal

pub returns : goal.returns
returns c = record { apart = roots-never_overlap }
