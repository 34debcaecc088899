use Rattle.std.proofs.Common.{arith}
use Rattle.trace_text.proofs.LaneSteps.{row_taken, row_refused, row_counted, given_on}
use Rattle.trace_text.proofs.lane.commands_of.Goals as goal

pub loop-row-preserved : goal.loop-row-preserved
loop-row-preserved c =
    let inv = c.loop-row.invariant in
    let taken = c.in_ok-read_row.ensures.row in
    let grown = c.in_ok-read_row.ensures.grown in
    record {
      read = row_taken _ _ _ _ _ _ _ _ c.loop-row-test.true c.row-item.is inv.read taken;
      count = row_counted _ _ _ _ _ taken inv.count;
      names = omega (arith, grown, inv.names);
    }

pub returns-in_err-read_row : goal.returns-in_err-read_row
returns-in_err-read_row c =
    let refused = row_refused c.in_err-read_row.field-0.0 _ _ _ _ _ _ _ _ c.loop-row-test.true c.row-item.is
    c.loop-row.invariant.read c.in_err-read_row.ensures.row in
    given_on _ _ _ _ c.from_residual.ensures.1 refused
