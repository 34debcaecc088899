use Rattle.std.proofs.Common.{Some, sym, ◌∙◌, subst}
use Rattle.pool_law.specs.declared.command.Command.{Command}
use Rattle.lane_context.specs.declared.work.Work.{Work}
use Rattle.lane_plans.specs.Plans.{IsPlanOf}
use Rattle.lane_plans.proofs.PlanCommands.{write_planned, write_refused}
use Rattle.lane_plans.proofs.planning.plan_write.Goals as goal

pub returns-in-Some-refusal_of : goal.returns-in-Some-refusal_of
returns-in-Some-refusal_of c =
    let marks = c.marks-reader in
    write_refused c.args.context.now c.requires.composites c.requires.inside c.args.name c.in-Some.whole.now
    (c.in-Some.ensures {u = tt}).some
    c.args.bytes.now marks.result.reader marks.result.writer marks.ensures.reader marks.ensures.writer c.reaches.result
    c.reaches.ensures.inside
    c.in-Some-refusal_of.refusal (c.in-Some-refusal_of.ensures {u = tt}).refused

pub returns : goal.returns
returns c =
    let none = (c.in_default-refusal_of.ensures {u = tt}).none in
    let marks = c.marks-reader in
    subst (λ (work : Work). IsPlanOf c.args.context.now (Command.Write c.args.name c.args.bytes.now) (Some work))
    (sym c.crossing.ensures)
    (write_planned c.args.context.now c.requires.composites c.requires.inside c.args.name c.in-Some.whole.now
    (c.in-Some.ensures {u = tt}).some
    c.args.bytes.now marks.result.reader marks.result.writer marks.ensures.reader marks.ensures.writer none.0
    (sym none.1 ∙ c.reaches.ensures.inside) c.in_ok-stage.stage (c.in_ok-stage.ensures {u = tt}))
