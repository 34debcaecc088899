use Rattle.std.proofs.Common.{◌≡◌, ◌≤◌, ◌+◌, [], ◌∷◌, List, length, true, refl, ap, ◌∙◌, arith, length-append}
use Rattle.std.specs.List.{list_all}
use Rattle.std.proofs.lemmas.List.Folds.{list_all-append}
use Rattle.pool_law.specs.declared.command.Command.{Command}
use Rattle.pool_law.proofs.PatternLemmas.{both_true}
use Rattle.lane_cases.specs.Plain.{is_plain}
use Rattle.lane_cases.proofs.sweeps.filled.commands.Goals as goal

pub loop-line-preserved : goal.loop-line-preserved
loop-line-preserved c =
    let inv = c.loop-line.invariant in let old = c.loop-line.commands.items in let one = c.command_at.result in
    let is = c.in_ok-push.ensures.items in
    record {
      many = omega (arith, ap (λ (cs : List Command). length cs) is, length-append old (one ∷ []), inv.many);
      within = omega (arith, c.loop-line-test.true);
      plain =
          ap (list_all is_plain) is ∙ list_all-append is_plain old (one ∷ [])
          ∙ both_true (list_all is_plain old) (list_all is_plain (one ∷ [])) inv.plain
          (both_true (is_plain one) true c.command_at.ensures refl);
    }
