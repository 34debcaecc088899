use Rattle.trace_text.proofs.StuckSteps.{one_longer, tables_more}
use Rattle.trace_text.proofs.counts.tables.Goals as goal

pub loop-lane-preserved : goal.loop-lane-preserved
loop-lane-preserved c = record {
  size = one_longer _ _ _ _ c.loop-lane.invariant.size c.in_ok-push.ensures.items;
  each =
      tables_more _ _ c.loop-lane.list.items c.push.new.self.items c.in_ok-rows.field-0 _ c.lane-item.result _
      c.loop-lane-test.true c.lane-item.is c.items.ensures c.loop-lane.invariant.size c.in_ok-rows.ensures
      c.loop-lane.invariant.each c.in_ok-push.ensures.items;
}
