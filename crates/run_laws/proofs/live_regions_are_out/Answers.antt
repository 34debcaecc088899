use Rattle.run_laws.proofs.RunEnds.{arenas-end}
use Rattle.run_laws.proofs.live_regions_are_out.Goals as goal

pub returns : goal.returns
returns c = record { out = arenas-end }
