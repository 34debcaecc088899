use Rattle.shared_composite.proofs.CoreLaws.{over_emptied}
use Rattle.shared_composite.proofs.cores.Core.into_seat.Goals as goal

pub returns-clause-emptied : goal.returns-clause-emptied
returns-clause-emptied c = λ pool underway. over_emptied pool c.args.self underway c.requires
