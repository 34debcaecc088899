use Rattle.std.proofs.Common.{sym, ◌∙◌, rules}
use Rattle.share_text.specs.Inputs.{read_in}
use Rattle.share_text.proofs.EachSteps.{none_taken, value_taken}
use Rattle.share_text.proofs.reading.each_read.Goals as goal

pub returns-in_err-read : goal.returns-in_err-read
returns-in_err-read c =
    let none = none_taken (read_in c.args.count) _ _ _ _ _ c.loop-row-test.true c.row-item.is c.loop-row.invariant
    (sym c.read_of.ensures ∙ c.in_err-read.ensures.ok_part) in
    rw none (search rules)

pub loop-row-preserved : goal.loop-row-preserved
loop-row-preserved c =
    value_taken (read_in c.args.count) _ _ _ _ _ _ _ c.loop-row-test.true c.row-item.is c.loop-row.invariant
    (sym c.read_of.ensures ∙ c.in_ok-read.ensures.ok_part) (search rules)
