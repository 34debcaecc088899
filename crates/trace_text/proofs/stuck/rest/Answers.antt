use Rattle.std.proofs.Common.{◌^◌, ◌-◌}
use Rattle.pool_law.specs.Stuck.{command_count}
use Rattle.trace_text.proofs.StuckSteps.{rest_more}
use Rattle.trace_text.proofs.stuck.rest.Goals as goal

pub loop-preserved : goal.loop-preserved
loop-preserved c = record {
  size = c.in_ok-at-2.ensures.size;
  rest = rest_more c.args.lanes.now (command_count c.args.lanes.now) c.loop.counter (2 ^ 64 - 2) _ c.loop.at.items _ _ _
      c.loop-test.true c.command_total-end.ensures c.deref.ensures.value c.in_ok-at-2.ensures.lines
      c.loop.invariant.rest;
}
