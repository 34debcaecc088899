use Rattle.trace_text.proofs.LaneSteps.{few_at, lane_taken, lane_refused, one_more, given_on}
use Rattle.trace_text.proofs.reading.lanes_from.Goals as goal

pub push_lane-requires-clause-rows : goal.push_lane-requires-clause-rows
push_lane-requires-clause-rows c = few_at _ _ _ c.requires.rows c.loop-value-test.true c.value-item.is

pub loop-value-preserved : goal.loop-value-preserved
loop-value-preserved c =
    let inv = c.loop-value.invariant in
    let (lane, (read, more)) = c.in_ok-push_lane.ensures in
    record {
      read = lane_taken _ _ _ _ _ _ _ c.loop-value-test.true c.value-item.is inv.read (lane, (read, more));
      count = one_more _ _ lane _ more inv.count;
    }

pub returns-in_err-push_lane : goal.returns-in_err-push_lane
returns-in_err-push_lane c =
    let refused = lane_refused c.in_err-push_lane.field-0.0 _ _ _ _ _ _ _ c.loop-value-test.true c.value-item.is
    c.loop-value.invariant.read c.in_err-push_lane.ensures in
    given_on _ _ _ _ c.from_residual.ensures.1 refused
