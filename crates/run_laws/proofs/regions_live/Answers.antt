use Rattle.run_laws.proofs.RunLaws.{regions-live}
use Rattle.run_laws.proofs.regions_live.Goals as goal

pub returns : goal.returns
returns c = record { live = regions-live }
