use Rattle.std.proofs.Common.{rules, ◌≡◌, ◌<◌, ◌≤◌, List, length, sym, subst, arith}
use Rattle.std.specs.Prelude.{◌⊎◌}
use Rattle.std.proofs.lemmas.List.{take_all}
use Rattle.run_check.specs.Gathering.{notes_data}
use Rattle.run_check.specs.declared.gathering.HistoryNote.{HistoryNote}
use Rattle.run_check.proofs.LeastLemmas.{FromOn, Past, least-more, there-more}
use Rattle.run_check.proofs.merging.least_of.Goals as goal

pub loop-note-preserved : goal.loop-note-preserved
loop-note-preserved c =
    let old = c.loop-note.least in
    let new = c.min-least.result in
    let note = c.note-item.result in
    let notes = c.args.notes.now in
    let i = c.loop-note.note-index in
    let there : i < length notes = search rules in
    let lesser : new ≤ old = omega (arith, c.min-least.ensures) in
    let this : new ≤ note.number = omega (arith, c.min-least.ensures) in
    let one : (new ≡ old) ⊎ (new ≡ note.number) = grind (arith, c.min-least.ensures) in
    record {
      most = omega (arith, lesser, c.loop-note.invariant.most);
      least =
          least-more c.args.number old new notes i note there c.note-item.is lesser this one
          c.loop-note.invariant.least;
      there =
          there-more c.args.number old new notes i note there c.note-item.is lesser this one
          c.loop-note.invariant.there;
    }

pub returns-clause-least : goal.returns-clause-least
returns-clause-least c =
    let notes = c.args.notes.now in
    let past : length notes ≤ c.loop-note.note-index = search rules in
    subst (λ (xs : List HistoryNote). FromOn c.loop-note.least (notes_data xs))
    (take_all c.loop-note.note-index notes past) c.loop-note.invariant.least

pub returns-clause-there : goal.returns-clause-there
returns-clause-there c below all =
    let notes = c.args.notes.now in
    let past : length notes ≤ c.loop-note.note-index = search rules in
    c.loop-note.invariant.there below
    (subst (λ (xs : List HistoryNote). Past c.loop-note.least (notes_data xs))
    (sym (take_all c.loop-note.note-index notes past)) all)
