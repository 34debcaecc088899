use Rattle.std.proofs.Common.{rules, ◌≡◌, ◌+◌, ◌<◌, ◌≤◌, List, ◌∷◌, drop, length, refl, sym, ap, ◌∙◌}
use Rattle.std.proofs.lemmas.List.{drop_more, drop_all}
use Rattle.std.proofs.lemmas.List.Folds.{list_any_at}
use Rattle.pool_law.specs.declared.id.RootId.{RootId}
use Rattle.pool_law.specs.declared.note.Note.{Note}
use Rattle.pool_law.specs.Counts.{is_birth}
use Rattle.run_check.specs.Tallying.{total_sums, AreTotals, BirthsHold}
use Rattle.run_check.proofs.FirstLemmas.{reached-none, reached-more, holds-whole}
use Rattle.run_check.proofs.ItemLemmas.{NoteHolds, each-front, each-further}
use Rattle.run_check.proofs.totals.mistotaled_in.Goals as goal

pub loop-note-init : goal.loop-note-init
loop-note-init c =
    let right = λ (root : RootId). AreTotals (total_sums c.args.tallies.now root) in
    let asks = λ (s : Unit {0}) (n : Note). NoteHolds is_birth right n in
    let holds = λ (s : Unit {0}) (ns : List Note). BirthsHold c.args.tallies.now ns in
    reached-none asks (λ s n. s) holds (λ s. tt) (each-front is_birth right) (each-further is_birth right) tt
    c.args.notes.now tt refl

pub returns-in-Some : goal.returns-in-Some
returns-in-Some c =
    let notes = c.args.notes.now in
    let root = c.in-Some.root in
    let found = rw c.in-Some.is at c.mistotaled.ensures in (
      list_any_at (is_birth root) notes c.loop-note.note-index c.note-item.result (search rules)
          (ap (is_birth root) (sym c.note-item.is) ∙ found.0),
      found.1,
    )

pub loop-note-preserved : goal.loop-note-preserved
loop-note-preserved c =
    let right = λ (root : RootId). AreTotals (total_sums c.args.tallies.now root) in
    let asks = λ (s : Unit {0}) (n : Note). NoteHolds is_birth right n in
    let holds = λ (s : Unit {0}) (ns : List Note). BirthsHold c.args.tallies.now ns in
    let notes = c.args.notes.now in
    let i = c.loop-note.note-index in
    let note = c.note-item.result in
    let there : i < length notes = search rules in
    let step : drop i notes ≡ note ∷ drop (i + 1) notes =
    drop_more notes i note there ∙ ap (λ (n : Note). n ∷ drop (i + 1) notes) (sym c.note-item.is) in
    reached-more asks (λ s n. s) holds (λ s. tt) (each-front is_birth right) (each-further is_birth right) tt
    notes i tt note (drop (i + 1) notes) c.loop-note.invariant step tt refl
    (rw c.in_default.is at c.mistotaled.ensures)

pub returns : goal.returns
returns c =
    let right = λ (root : RootId). AreTotals (total_sums c.args.tallies.now root) in
    let asks = λ (s : Unit {0}) (n : Note). NoteHolds is_birth right n in
    let holds = λ (s : Unit {0}) (ns : List Note). BirthsHold c.args.tallies.now ns in
    let notes = c.args.notes.now in
    let i = c.loop-note.note-index in
    let past : length notes ≤ i = search rules in
    holds-whole asks (λ s n. s) holds (λ s. tt) (each-front is_birth right) (each-further is_birth right) tt
    notes i tt c.loop-note.invariant (drop_all i notes past)
