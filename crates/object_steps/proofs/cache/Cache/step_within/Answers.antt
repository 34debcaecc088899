-- What holds of each capacity holds of this one.
use Rattle.object_steps.proofs.cache.Cache.step_within.Goals as goal

pub returns-in-Miss : goal.returns-in-Miss
returns-in-Miss c = rw c.in-Miss.is (c.missed.ensures c.args.capacity)

pub returns-in-Close : goal.returns-in-Close
returns-in-Close c = rw c.in-Close.is (c.after_close.ensures c.args.capacity)

pub returns-in-Shed : goal.returns-in-Shed
returns-in-Shed c = rw c.in-Shed.is (c.shed.ensures c.args.capacity)
