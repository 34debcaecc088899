use Rattle.std.proofs.Common.{rules, ◌≡◌, ◌+◌, ◌<◌, ◌≤◌, List, ◌∷◌, drop, length, refl, sym, ap, ◌∙◌}
use Rattle.std.proofs.lemmas.Bool.{false≢true}
use Rattle.std.proofs.lemmas.List.{drop_more, drop_all}
use Rattle.pool_law.specs.declared.id.RootId.{RootId}
use Rattle.pool_law.specs.declared.note.Note.{Note}
use Rattle.pool_law.specs.Counts.{names_root}
use Rattle.run_check.specs.Tallying.{total_sums, NamesHold}
use Rattle.run_check.proofs.FirstLemmas.{reached-none, reached-more, breaks-here, holds-whole}
use Rattle.run_check.proofs.ItemLemmas.{NoteHolds, each-front, each-further}
use Rattle.run_check.proofs.totals.unborn_at.Goals as goal

pub loop-at-init : goal.loop-at-init
loop-at-init c =
    let right = λ (root : RootId). 0 < (total_sums c.args.tallies.now root).births in
    let asks = λ (s : Unit {0}) (n : Note). NoteHolds names_root right n in
    let holds = λ (s : Unit {0}) (ns : List Note). NamesHold c.args.tallies.now ns in
    reached-none asks (λ s n. s) holds (λ s. tt) (each-front names_root right) (each-further names_root right) tt
    c.args.notes.now tt refl

pub returns-then-not-name_holds : goal.returns-then-not-name_holds
returns-then-not-name_holds c =
    let right = λ (root : RootId). 0 < (total_sums c.args.tallies.now root).births in
    let asks = λ (s : Unit {0}) (n : Note). NoteHolds names_root right n in
    let holds = λ (s : Unit {0}) (ns : List Note). NamesHold c.args.tallies.now ns in
    let notes = c.args.notes.now in
    let i = c.loop-at.at in
    let note = c.index-notes-at.result in
    let there : i < length notes = search rules in
    let step : drop i notes ≡ note ∷ drop (i + 1) notes =
    drop_more notes i note there ∙ ap (λ (n : Note). n ∷ drop (i + 1) notes) (sym c.index-notes-at.is) in
    breaks-here asks (λ s n. s) holds (λ s. tt) (each-front names_root right) (each-further names_root right) tt
    notes i tt note (drop (i + 1) notes) c.loop-at.invariant step
    (λ born. false≢true (sym c.if-not-name_holds.true ∙ c.name_holds.ensures.1 born))

pub loop-at-preserved : goal.loop-at-preserved
loop-at-preserved c =
    let right = λ (root : RootId). 0 < (total_sums c.args.tallies.now root).births in
    let asks = λ (s : Unit {0}) (n : Note). NoteHolds names_root right n in
    let holds = λ (s : Unit {0}) (ns : List Note). NamesHold c.args.tallies.now ns in
    let notes = c.args.notes.now in
    let i = c.loop-at.at in
    let note = c.index-notes-at.result in
    let there : i < length notes = search rules in
    let step : drop i notes ≡ note ∷ drop (i + 1) notes =
    drop_more notes i note there ∙ ap (λ (n : Note). n ∷ drop (i + 1) notes) (sym c.index-notes-at.is) in
    reached-more asks (λ s n. s) holds (λ s. tt) (each-front names_root right) (each-further names_root right) tt
    notes i tt note (drop (i + 1) notes) c.loop-at.invariant step tt refl
    (c.name_holds.ensures.0 c.if-not-name_holds.false)

pub returns : goal.returns
returns c =
    let right = λ (root : RootId). 0 < (total_sums c.args.tallies.now root).births in
    let asks = λ (s : Unit {0}) (n : Note). NoteHolds names_root right n in
    let holds = λ (s : Unit {0}) (ns : List Note). NamesHold c.args.tallies.now ns in
    let notes = c.args.notes.now in
    let i = c.loop-at.at in
    let past : length notes ≤ i = search rules in
    holds-whole asks (λ s n. s) holds (λ s. tt) (each-front names_root right) (each-further names_root right) tt
    notes i tt c.loop-at.invariant (drop_all i notes past)
