-- What holds of each number holds of this one.
use Rattle.object_steps.proofs.arena.Arena.noted.Goals as goal

pub returns-in-Give : goal.returns-in-Give
returns-in-Give c = rw c.in-Give.is (c.given.ensures c.args.number)

pub returns-in-Full : goal.returns-in-Full
returns-in-Full c = rw c.in-Full.is (c.full.ensures c.args.number)
