use Rattle.std.proofs.Common.{rules, ◌≡◌, ℕ, ◌<◌, List, length, sym, subst, below_more, ◌∙◌}
use Rattle.std.proofs.lemmas.Bool.{false≢true}
use Rattle.pool_law.specs.declared.note.Did.{Did}
use Rattle.run_check.specs.Gathering.{notes_data, left_of, HasNext}
use Rattle.run_check.proofs.GatheringLemmas.{left-at, none-has}
use Rattle.run_check.proofs.gathering.lane_with.Goals as goal

pub returns-then-has_next : goal.returns-then-has_next
returns-then-has_next c =
    let left = c.args.left.now in
    let there : c.loop-lane.lane < length left = search rules in
    let here : left_of left c.loop-lane.lane ≡ notes_data c.index-left-lane.result.now =
    left-at left c.loop-lane.lane c.index-left-lane.result there c.index-left-lane.is in (
      subst (λ (xs : List (ℕ × Did)). HasNext c.args.number xs) (sym here) (c.has_next.ensures.0 c.if-has_next.true),
      there,
    )

pub loop-lane-preserved : goal.loop-lane-preserved
loop-lane-preserved c =
    let left = c.args.left.now in
    let there : c.loop-lane.lane < length left = search rules in
    let here : left_of left c.loop-lane.lane ≡ notes_data c.index-left-lane.result.now =
    left-at left c.loop-lane.lane c.index-left-lane.result there c.index-left-lane.is in
    below_more
    (λ (k : ℕ). HasNext c.args.number (left_of left k) → ⊥)
    c.loop-lane.lane
    c.loop-lane.invariant
    (λ has.
    false≢true
    (sym c.if-has_next.false
    ∙ c.has_next.ensures.1 (subst (λ (xs : List (ℕ × Did)). HasNext c.args.number xs) here has)))

pub returns : goal.returns
returns c = none-has c.args.left.now c.args.number c.loop-lane.lane c.loop-lane.invariant (search rules)
