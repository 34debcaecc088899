use Rattle.std.proofs.Common.{false, Some, sym, ◌∙◌, subst}
use Rattle.pool_law.specs.declared.command.Command.{Command}
use Rattle.lane_context.specs.declared.work.Work.{Work}
use Rattle.lane_plans.specs.Plans.{IsPlanOf}
use Rattle.lane_plans.proofs.PlanCommands.{set_planned, set_refused}
use Rattle.lane_plans.proofs.planning.plan_set.Goals as goal

pub returns-in-Some-refusal_of : goal.returns-in-Some-refusal_of
returns-in-Some-refusal_of c =
    set_refused c.args.context.now c.requires.composites c.requires.inside c.args.name c.in-Some.whole.now
    (c.in-Some.ensures {u = tt}).some
    c.args.at c.args.bytes.now c.reaches.result c.reaches.ensures.inside c.in-Some-refusal_of.refusal
    (c.in-Some-refusal_of.ensures {u = tt}).refused

pub returns : goal.returns
returns c =
    let none = (c.in_default-refusal_of.ensures {u = tt}).none in
    subst (λ (work : Work). IsPlanOf c.args.context.now (Command.Set c.args.name c.args.at c.args.bytes.now false)
    (Some work))
    (sym c.crossing.ensures)
    (set_planned c.args.context.now c.requires.composites c.requires.inside c.args.name c.in-Some.whole.now
    (c.in-Some.ensures {u = tt}).some
    c.args.at c.args.bytes.now none.0 (sym none.1 ∙ c.reaches.ensures.inside) c.in_ok-stage.stage
    (c.in_ok-stage.ensures {u = tt}))
