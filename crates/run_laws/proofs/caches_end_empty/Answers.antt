use Rattle.run_laws.proofs.RunLaws.{caches-end_empty}
use Rattle.run_laws.proofs.caches_end_empty.Goals as goal

pub returns : goal.returns
returns c = record { empty = caches-end_empty }
