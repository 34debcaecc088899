use Rattle.std.proofs.Common.{false, None, Some, sym, ◌∙◌, subst}
use Rattle.pool_law.specs.declared.command.Command.{Command}
use Rattle.pool_law.specs.declared.run.Reply.{Reply}
use Rattle.lane_context.specs.declared.work.Work.{Work}
use Rattle.lane_plans.specs.Plans.{IsPlanOf, work_on}
use Rattle.lane_plans.proofs.PlanCommands.{get_planned, get_refused}
use Rattle.lane_plans.proofs.planning.plan_get.Goals as goal

pub returns-in-Some-refusal_of : goal.returns-in-Some-refusal_of
returns-in-Some-refusal_of c =
    get_refused c.args.context.now c.requires.composites c.requires.inside c.args.name c.in-Some.whole.now
    (c.in-Some.ensures {u = tt}).some
    c.args.at c.args.len c.reaches.result c.reaches.ensures.inside c.in-Some-refusal_of.refusal
    (c.in-Some-refusal_of.ensures {u = tt}).refused

pub returns : goal.returns
returns c =
    let none = (c.in_default-refusal_of.ensures {u = tt}).none in
    subst (λ (work : Work). IsPlanOf c.args.context.now (Command.Get c.args.name c.args.at c.args.len false)
    (Some work))
    (sym (c.crossing.ensures ∙ (λ i. work_on c.args.name None c.in_ok-stage.stage
    (Reply.OkBytes ((c.of.ensures ∙ c.new.ensures.items) i)))))
    (get_planned c.args.context.now c.requires.composites c.requires.inside c.args.name c.in-Some.whole.now
    (c.in-Some.ensures {u = tt}).some
    c.args.at c.args.len none.0 (sym none.1 ∙ c.reaches.ensures.inside) c.in_ok-stage.stage
    (c.in_ok-stage.ensures {u = tt}))
