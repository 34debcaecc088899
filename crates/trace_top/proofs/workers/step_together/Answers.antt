use Rattle.std.proofs.lemmas.Result.{on_ok_weaker}
use Rattle.lane_core.specs.Lanes.{IsFinished}
use Rattle.work_table.proofs.Places.{at_all}
use Rattle.trace_top.proofs.Tables.{come, lanes_came, run_still}
use Rattle.trace_top.proofs.workers.step_together.Goals as goal

pub stepped-requires-clause-lanes : goal.stepped-requires-clause-lanes
stepped-requires-clause-lanes g c κs within =
    come (g.G.Gate.stops c.args.gate.now) c.args.pool.now c.args.lanes.items c.requires.lanes

pub returns-clause-lanes : goal.returns-clause-lanes
returns-clause-lanes g c =
    lanes_came (g.G.Gate.stops c.args.gate.now) c.args.pool.now c.args.lanes.items c.stepped.result.0.items
    c.stepped.ensures.lanes

pub returns-clause-runs : goal.returns-clause-runs
returns-clause-runs g c trace before =
    run_still trace (g.G.Gate.stops c.args.gate.now) c.args.pool.now c.args.lanes.items c.stepped.result.0.items
    c.stepped.ensures.lanes before

pub returns-clause-finished : goal.returns-clause-finished
returns-clause-finished g c =
    let after = c.stepped.result in
    on_ok_weaker after.1 (at_all IsFinished after.0.items) c.stepped.ensures.finished
