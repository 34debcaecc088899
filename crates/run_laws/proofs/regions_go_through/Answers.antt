use Rattle.run_laws.proofs.CacheLaw.{goes-through}
use Rattle.run_laws.proofs.regions_go_through.Goals as goal

pub returns : goal.returns
returns c = record { through = goes-through }
