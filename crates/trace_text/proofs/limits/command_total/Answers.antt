use Rattle.std.proofs.Common.{arith}
use Rattle.trace_text.proofs.CountSteps.{count_step}
use Rattle.trace_text.proofs.limits.command_total.Goals as goal

pub loop-lane-preserved : goal.loop-lane-preserved
loop-lane-preserved c =
    let more = count_step c.args.lanes.now c.loop-lane.lane-index c.lane-item.result c.loop-lane-test.true in
    grind (arith, more, c.loop-lane.invariant)
