use Rattle.std.proofs.Common.{rules}
use Rattle.nest_run.proofs.RowSteps.{row_taken, row_refused}
use Rattle.nest_run.proofs.reading.calls_from.Goals as goal

pub returns-in_err-call : goal.returns-in_err-call
returns-in_err-call c =
    row_refused c.in_err-call.field-0.0 _ _ _ _ _ _ c.loop-row-test.true c.row-item.is c.loop-row.invariant
    c.in_err-call.ensures c.from_residual.ensures.1

pub loop-row-preserved : goal.loop-row-preserved
loop-row-preserved c =
    row_taken _ _ _ _ _ _ _ c.loop-row-test.true c.row-item.is c.loop-row.invariant c.in_ok-call.ensures (search rules)
