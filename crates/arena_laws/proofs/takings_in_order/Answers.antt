use Rattle.arena_laws.proofs.TakingLaw.{takings-in_order}
use Rattle.arena_laws.proofs.takings_in_order.Goals as goal

pub returns : goal.returns
returns c = record { order = takings-in_order }
