use Rattle.run_laws.proofs.RunEnds.{regions-return}
use Rattle.run_laws.proofs.regions_return.Goals as goal

pub returns : goal.returns
returns c = record { returned = regions-return }
