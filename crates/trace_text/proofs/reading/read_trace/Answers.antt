use Rattle.std.proofs.Common.{arith}
use Rattle.trace_text.proofs.LaneCounts.{lane_count}
use Rattle.trace_text.proofs.OptionFits.{parts_fit}
use Rattle.trace_text.proofs.ReadingFits.{accepted_fits}
use Rattle.trace_text.proofs.ShortReads.{lanes_short}
use Rattle.trace_text.proofs.reading.read_trace.Goals as goal

pub accepted-requires : goal.accepted-requires
accepted-requires c =
    lanes_short _ _ _ c.in_ok-value.ensures c.in_ok-lanes.ensures (omega (arith, c.if-text-gt-TEXT_LIMIT.false))

pub returns-clause-lanes : goal.returns-clause-lanes
returns-clause-lanes c = accepted_fits _ _ (c.in_ok-trace.ensures)

pub returns-clause-some_lane : goal.returns-clause-some_lane
returns-clause-some_lane c = (lane_count _ _ (c.in_ok-trace.ensures)).0

pub returns-clause-few_lanes : goal.returns-clause-few_lanes
returns-clause-few_lanes c = (lane_count _ _ (c.in_ok-trace.ensures)).1

pub returns-clause-options : goal.returns-clause-options
returns-clause-options c = parts_fit _ _ c.in_ok-lanes.ensures
