use Rattle.std.proofs.Common.{◌≡◌, ◌≤◌, List, length, ap, ◌∙◌, arith}
use Rattle.std.proofs.lemmas.List.{take_all}
use Rattle.pool_law.specs.declared.id.Part.{Part}
use Rattle.pool_law.specs.Composites.{ranges}
use Rattle.lane_stages.specs.Crossings.{parts_of}
use Rattle.lane_plans.proofs.PlanParts.{is_got}
use Rattle.lane_plans.proofs.crossings.get_stage.Goals as goal

pub returns : goal.returns
returns c =
    let found = c.in_ok-parts.ensures {u = tt} in
    let held = c.loop-part.invariant in
    let ps = c.items-part-items.result.now in
    let got = c.in_ok-got.ensures {u = tt} in
    let past : length ps ≤ c.loop-part.part-index = omega (arith, c.loop-part-test.false) in
    let all : parts_of c.loop-part.stretches.items ≡ ps = held.0 ∙ take_all c.loop-part.part-index ps past in
    is_got c.args.whole.now c.args.at c.loop-part.stretches.items c.in-Some.first c.in-Some.later c.in-Some.ensures
    held.1
    c.args.len c.in_ok-got.got (all ∙ c.items-part-items.ensures ∙ found.law
    ∙ ap (λ (qs : List Part). ranges qs c.args.at c.args.len) c.parts.ensures)
    got.items got.capacity c.requires
