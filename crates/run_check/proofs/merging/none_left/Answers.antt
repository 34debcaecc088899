use Rattle.std.proofs.Common.{rules, ◌≡◌, ℕ, ◌≤◌, [], length, refl, sym, below_more, ⊎_elim, arith, ◌∙◌}
use Rattle.std.proofs.lemmas.Bool.{cases_lt}
use Rattle.run_check.specs.Gathering.{notes_data, left_of}
use Rattle.run_check.proofs.GatheringLemmas.{left-at, left-past}
use Rattle.run_check.proofs.MergingLemmas.{no-notes, some-notes}
use Rattle.run_check.proofs.merging.none_left.Goals as goal

pub returns-then-not-is_empty : goal.returns-then-not-is_empty
returns-then-not-is_empty c =
    let left = c.args.left.now in
    let i = c.loop-notes.notes-index in
    let here : left_of left i ≡ notes_data c.notes-item.result.now =
    left-at left i c.notes-item.result (search rules) c.notes-item.is in (
      λ e. absurd (cc e),
      λ all.
          absurd
          (some-notes c.notes-item.result.now (sym c.is_empty.ensures ∙ c.if-not-is_empty.true) (sym here ∙ all i)),
    )

pub loop-notes-preserved : goal.loop-notes-preserved
loop-notes-preserved c =
    let left = c.args.left.now in
    let i = c.loop-notes.notes-index in
    let here : left_of left i ≡ notes_data c.notes-item.result.now =
    left-at left i c.notes-item.result (search rules) c.notes-item.is in
    below_more (λ (k : ℕ). left_of left k ≡ []) i c.loop-notes.invariant
    (here ∙ no-notes c.notes-item.result.now (sym c.is_empty.ensures ∙ c.if-not-is_empty.false))

pub returns : goal.returns
returns c =
    let left = c.args.left.now in
    let i = c.loop-notes.notes-index in
    let all : length left ≤ i = search rules in (
      λ _.
          λ lane.
          ⊎_elim
          (λ inside. c.loop-notes.invariant lane inside)
          (λ past. left-past left lane (omega (arith, past, all)))
          (cases_lt lane i),
      λ _. refl,
    )
