use Rattle.work_table.proofs.Tables.{came_back, came_by}
use Rattle.work_table.proofs.workers.step_as.Goals as goal

pub step_all-ended-requires-clause-own : goal.step_all-ended-requires-clause-own
step_all-ended-requires-clause-own g c =
    (c.requires.own.0, c.at_work-table.ensures.own c.requires.own.0 c.requires.own.1)

pub step_all-ended-requires-clause-machines : goal.step_all-ended-requires-clause-machines
step_all-ended-requires-clause-machines g c =
    (g.T.Playing.firsts, came_by _ _ _ _ c.requires.relation c.into_machines-machines.ensures.machines)

pub returns-clause-own : goal.returns-clause-own
returns-clause-own g c first came = c.step_all-ended.ensures.own first (c.at_work-table.ensures.own first came)

pub returns-clause-machines : goal.returns-clause-machines
returns-clause-machines g c =
    came_back _ _ _ _ c.requires.relation
    (c.step_all-ended.ensures.machines g.T.Playing.firsts
    (came_by _ _ _ _ c.requires.relation c.into_machines-machines.ensures.machines))
