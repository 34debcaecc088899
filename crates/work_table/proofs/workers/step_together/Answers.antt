use Rattle.work_table.proofs.Tables.{came_at_first}
use Rattle.work_table.proofs.workers.step_together.Goals as goal

pub step_as-requires-clause-machines : goal.step_as-requires-clause-machines
step_as-requires-clause-machines g c κs within = came_at_first _ _ c.requires

pub step_as-requires-clause-relation : goal.step_as-requires-clause-relation
step_as-requires-clause-relation g c κs within first m = (λ comes. comes, λ comes. comes)
