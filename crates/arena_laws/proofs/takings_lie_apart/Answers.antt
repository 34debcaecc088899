use Rattle.arena_laws.proofs.ArenaLaw.{takings-apart}
use Rattle.arena_laws.proofs.takings_lie_apart.Goals as goal

pub returns : goal.returns
returns c = record { apart = takings-apart }
