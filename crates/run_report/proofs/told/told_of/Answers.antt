use Rattle.std.proofs.Common.{◌≤◌, List, length, sum_by, All, subst, sym, ap, ◌∙◌}
use Rattle.pool_law.specs.declared.run.LaneLog.{LaneLog}
use Rattle.run_report.specs.ReplyTotals.{read_by, refusals_by, total_by}
use Rattle.run_report.proofs.ToldLaws.{refused_is, read_is, total_is}
use Rattle.run_report.proofs.told.told_of.Goals as goal

pub told_over-requires-clause-few : goal.told_over-requires-clause-few
told_over-requires-clause-few c =
    let Few : List LaneLog → Type 0 = λ logs. All (λ log. length log.replies ≤ 65536) logs in
    subst Few (sym c.items.ensures) c.requires.few

pub returns-clause-refused : goal.returns-clause-refused
returns-clause-refused c =
    c.told_over.ensures.refused ∙ ap (sum_by refusals_by) c.items.ensures ∙ sym (refused_is c.args.run.now)

pub returns-clause-read : goal.returns-clause-read
returns-clause-read c =
    c.told_over.ensures.read ∙ ap (sum_by read_by) c.items.ensures ∙ sym (read_is c.args.run.now)

pub returns-clause-total : goal.returns-clause-total
returns-clause-total c =
    c.told_over.ensures.total ∙ ap (sum_by total_by) c.items.ensures ∙ sym (total_is c.args.run.now)
