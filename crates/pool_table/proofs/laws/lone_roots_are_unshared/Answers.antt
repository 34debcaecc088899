use Rattle.pool_table.proofs.LoneLaws.{unshared}
use Rattle.pool_table.proofs.laws.lone_roots_are_unshared.Goals as goal

pub returns : goal.returns
returns g c = record { unshared = λ l s r v u two q lone. unshared g.H.Told.stands l s r v u two q lone }
