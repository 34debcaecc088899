use Rattle.run_laws.proofs.RunLaws.{regions-apart}
use Rattle.run_laws.proofs.regions_lie_apart.Goals as goal

pub returns : goal.returns
returns c = record { apart = regions-apart }
