use Rattle.std.proofs.Common.{sym, ◌∙◌}
use Rattle.lane_plans.proofs.PlanCommands.{release_planned}
use Rattle.lane_plans.proofs.planning.plan_release.Goals as goal

pub returns : goal.returns
returns c =
    release_planned c.args.context.now c.requires.composites c.requires.inside c.args.name c.in-Some.whole.now
    (c.in-Some.ensures {u = tt}).some
    c.in_ok-parts.parts (c.in_ok-parts.ensures {u = tt}).items (sym c.count.ensures ∙ c.if-count-ne1.false)
