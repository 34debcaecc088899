use Rattle.run_input.proofs.asked.read_asked.Goals as goal

pub returns-in-Ok-clause-within : goal.returns-in-Ok-clause-within
returns-in-Ok-clause-within c =
    rw c.shape.ensures
    (c.in-Ok.ensures.sound _ (rw c.items-lanes.ensures c.in-Ok.ensures.some_lane)
    (rw c.items-lanes.ensures c.in-Ok.ensures.few_lanes))
