use Rattle.std.proofs.Common.{rules}
use Rattle.run_input.proofs.RowSteps.{text_taken, text_refused}
use Rattle.run_input.proofs.asked.texts_of.Goals as goal

pub returns-in_err-text : goal.returns-in_err-text
returns-in_err-text c =
    text_refused c.in_err-text.field-0.0 _ _ _ _ _ _ c.loop-value-test.true c.value-item.is c.loop-value.invariant
    c.in_err-text.ensures c.from_residual.ensures.1

pub loop-value-preserved : goal.loop-value-preserved
loop-value-preserved c =
    text_taken c.loop-value.texts.items c.push.new.self.items c.in_ok-text.text c.loop-value.value-index
    c.args.values.now c.value-item.result _ c.loop-value-test.true c.value-item.is c.loop-value.invariant
    c.in_ok-text.ensures (search rules)
