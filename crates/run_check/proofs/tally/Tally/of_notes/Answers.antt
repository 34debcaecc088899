use Rattle.std.proofs.Common.{rules, ◌≡◌, ◌+◌, ◌<◌, ◌-◌, ◌^◌, ◌∷◌, length, drop, sym, ap, arith, ◌∙◌}
use Rattle.std.proofs.lemmas.List.{drop_more}
use Rattle.pool_law.specs.declared.note.Note.{Note}
use Rattle.run_check.specs.declared.tally.Sums.{Sums}
use Rattle.run_check.specs.Tallying.{sums_in, sums_from}
use Rattle.run_check.proofs.TallyLemmas.{none-at-most, at-most-after, at-most-more}
use Rattle.run_check.proofs.tally.Tally.of_notes.Goals as goal

pub loop-note-init : goal.loop-note-init
loop-note-init c root = (
  ap (λ (s : Sums). sums_from root s c.args.notes.now) (c.new-tally.ensures root),
  none-at-most (sums_in c.new-tally.result root) (c.new-tally.ensures root),
)

pub pass-requires : goal.pass-requires
pass-requires c root =
    let there : c.loop-note.note-index < length c.args.notes.now = search rules in
    at-most-more c.loop-note.note-index (2 ^ 64 - 2) (sums_in c.loop-note.tally root) (omega (arith, there))
    (c.loop-note.invariant root).1

pub loop-note-preserved : goal.loop-note-preserved
loop-note-preserved c root =
    let notes = c.args.notes.now in
    let i = c.loop-note.note-index in
    let note = c.note-item.result in
    let old = sums_in c.loop-note.tally root in
    let there : i < length notes = search rules in
    let step : drop i notes ≡ note ∷ drop (i + 1) notes =
    drop_more notes i note there ∙ ap (λ (n : Note). n ∷ drop (i + 1) notes) (sym c.note-item.is) in
    let is = c.in_ok-pass.ensures root in
    let before = c.loop-note.invariant root in (
      ap (λ (s : Sums). sums_from root s (drop (i + 1) notes)) is
          ∙ ap (sums_from root old) (sym step) ∙ before.0,
      at-most-after root i old (sums_in c.pass.new.self root) note is before.1,
    )
