use Rattle.pool_table.specs.Steps.{no_object}
use Rattle.pool_table.proofs.table.PoolTable.look_round.Given as goal

abbrev pub ghosts-stay : goal.ghosts-stay
ghosts-stay g a = record { object = no_object; layout = a.self.now.layout }
