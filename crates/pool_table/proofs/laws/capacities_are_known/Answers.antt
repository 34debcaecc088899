use Rattle.pool_table.proofs.KnownCapacities.{knows_no_more}
use Rattle.pool_table.proofs.laws.capacities_are_known.Goals as goal

pub returns : goal.returns
returns g c = record { known = λ l s r p fits x q after is. knows_no_more g.H.Told.stands l s r p fits x q after is }
