use Rattle.work_table.proofs.Tables.{each_came}
use Rattle.work_table.proofs.table.Table.into_machines.Goals as goal

pub returns-clause-machines : goal.returns-clause-machines
returns-clause-machines g c = each_came _ _ _ _ c.out_of_places.ensures c.self.invariant.0
