use Rattle.std.proofs.Common.{sym, ap, ◌∙◌, arith, rules}
use Rattle.std.specs.Prelude.{option_map}
use Rattle.trace_text.proofs.NumberSteps.{number_taken, number_refused}
use Rattle.trace_text.proofs.forms.numbers.Goals as goal

pub returns-in_err-name : goal.returns-in_err-name
returns-in_err-name c =
    let none = number_refused _ _ _ _ _ _ c.loop-item-test.true c.item-item.is c.loop-item.invariant.read
    (sym c.name_of.ensures ∙ ap (option_map (λ name. name.now)) c.in_err-name.ensures.ok_part) in
    rw none (search rules)

pub loop-item-preserved : goal.loop-item-preserved
loop-item-preserved c =
    let inv = c.loop-item.invariant in
    let few = c.in_ok-number.ensures.few in
    record {
      read =
          number_taken _ _ _ _ _ _ _ _ _ _ c.loop-item-test.true c.item-item.is inv.read
          (sym c.name_of.ensures ∙ ap (option_map (λ name. name.now)) c.in_ok-name.ensures.ok_part)
          c.in_ok-number.ensures.number c.in_ok-number.ensures.names (search rules);
      few = omega (arith, few, inv.few);
    }
