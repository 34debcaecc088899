use Rattle.trace_top.proofs.Tables.{came_on}
use Rattle.trace_top.proofs.environment.LaneMachineEnvironment.step.Goals as goal

pub returns-clause-comes : goal.returns-clause-comes
returns-clause-comes g c first came =
    (came.0, came_on _ _ _ _ _ came.1 (came.0.keeps _ _ _ came.1.lane c.step.ensures))

pub returns-clause-finished : goal.returns-clause-finished
returns-clause-finished g c is =
    let came = c.requires.comes.1 in
    came.0.finishes _ _ _ came.1.lane c.step.ensures is
