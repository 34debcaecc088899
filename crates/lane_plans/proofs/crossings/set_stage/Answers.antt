use Rattle.std.proofs.Common.{◌≡◌, ℕ, ◌+◌, ◌≤◌, List, rules, refl, length, ap, ◌∙◌, arith, take, slice_index_or}
use Rattle.std.proofs.lemmas.List.{take_all}
use Rattle.pool_law.specs.declared.id.Part.{Part}
use Rattle.pool_law.specs.Composites.{ranges, size_of}
use Rattle.lane_stages.specs.declared.crossing.Stretch.{Stretch}
use Rattle.lane_plans.proofs.PlanParts.{bytes_more, ends_within, is_set, no_part, parts_more, size_within, sized_more}
use Rattle.lane_plans.proofs.crossings.set_stage.Goals as goal

pub overflow_add-behind : goal.overflow_add-behind
overflow_add-behind c =
    let ps = c.items-part-items.result.now in
    let held = c.loop-part.invariant in
    let le = ends_within ps c.loop-part.part-index no_part c.loop-part-test.true in
    omega (arith, le, held.3, held.4, c.requires.inside, c.requires.small)

pub slice_bounds-from_slice-end : goal.slice_bounds-from_slice-end
slice_bounds-from_slice-end c =
    let ps = c.items-part-items.result.now in
    let held = c.loop-part.invariant in
    let le = ends_within ps c.loop-part.part-index no_part c.loop-part-test.true in
    omega (arith, le, held.3, held.4)

pub loop-part-preserved : goal.loop-part-preserved
loop-part-preserved c =
    let ps = c.items-part-items.result.now in
    let held = c.loop-part.invariant in
    let k = c.loop-part.part-index in
    let lt = c.loop-part-test.true in
    let ss = c.loop-part.stretches.items in
    let pushed = c.push_reserved.ensures.items in
    let le : c.loop-part.from + (slice_index_or ps k no_part).len ≤ length c.args.bytes.now =
    (let ends = ends_within ps k no_part lt in omega (arith, ends, held.3, held.4)) in
    let s : Stretch = record { part = slice_index_or ps k no_part; bytes = c.in_ok-bytes.bytes } in (
      parts_more ps k no_part lt ss c.push_reserved.new.self.items s pushed refl held.0 held.1,
      sized_more ps k no_part lt ss c.push_reserved.new.self.items s pushed refl held.0 held.1 c.args.bytes.now
          c.loop-part.from le held.2 (c.in_ok-bytes.ensures {u = tt}).items,
      bytes_more ps k no_part lt ss c.push_reserved.new.self.items s pushed refl held.0 held.1 c.args.bytes.now
          c.loop-part.from le held.2 (c.in_ok-bytes.ensures {u = tt}).items,
      ap (λ (n : ℕ). n + (slice_index_or ps k no_part).len) held.3 ∙ size_within ps k no_part lt,
      held.4,
      search rules,
      search rules,
    )

pub returns : goal.returns
returns c =
    let found = c.in_ok-parts.ensures {u = tt} in
    let held = c.loop-part.invariant in
    let ps = c.items-part-items.result.now in
    let past : length ps ≤ c.loop-part.part-index = omega (arith, c.loop-part-test.false) in
    let all : take c.loop-part.part-index ps ≡ ps = take_all c.loop-part.part-index ps past in
    let whole : c.loop-part.from ≡ length c.args.bytes.now =
    held.3 ∙ ap (λ (qs : List Part). size_of qs) all ∙ held.4 in
    is_set c.args.whole.now c.args.at c.loop-part.stretches.items c.in-Some.first c.in-Some.later c.in-Some.ensures
    held.1
    c.args.bytes.now (held.0 ∙ all ∙ c.items-part-items.ensures ∙ found.law
    ∙ ap (λ (qs : List Part). ranges qs c.args.at (length c.args.bytes.now)) c.parts.ensures)
    (held.2 ∙ take_all c.loop-part.from c.args.bytes.now (omega (arith, whole)))
