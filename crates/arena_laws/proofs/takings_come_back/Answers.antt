use Rattle.arena_laws.proofs.ReturnLaw.{comes-back}
use Rattle.arena_laws.proofs.takings_come_back.Goals as goal

pub returns : goal.returns
returns c = record { between = comes-back }
