use Rattle.pool_table.proofs.Turns.{in_turn}
use Rattle.pool_table.proofs.laws.roots_come_in_turn.Goals as goal

pub returns : goal.returns
returns g c = record { in_turn = λ l s r p lt k. in_turn g.H.Told.stands l s r p lt k }
