use Rattle.std.proofs.Common.{rules}
use Rattle.share_text.proofs.EachSteps.{value_taken, value_refused}
use Rattle.share_text.proofs.reading.each_reader.Goals as goal

pub returns-in_err-reads : goal.returns-in_err-reads
returns-in_err-reads c =
    value_refused c.in_err-reads.field-0.0 _ _ _ _ _ _ _ c.loop-row-test.true c.row-item.is c.loop-row.invariant
    c.in_err-reads.ensures c.from_residual.ensures.1

pub loop-row-preserved : goal.loop-row-preserved
loop-row-preserved c =
    value_taken _ _ _ _ _ _ _ _ c.loop-row-test.true c.row-item.is c.loop-row.invariant c.in_ok-reads.ensures
    (search rules)
