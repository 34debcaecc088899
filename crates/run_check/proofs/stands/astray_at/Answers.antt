use Rattle.std.proofs.Common.{rules, ◌≡◌, ◌+◌, ◌<◌, ◌≤◌, List, ◌∷◌, drop, length, refl, sym, ap, ◌∙◌}
use Rattle.std.specs.Prelude.{IsTrue}
use Rattle.std.specs.List.{list_all}
use Rattle.std.proofs.lemmas.Bool.{false≢true}
use Rattle.std.proofs.lemmas.List.{drop_more, drop_all}
use Rattle.pool_law.specs.declared.note.Note.{Note}
use Rattle.pool_law.specs.Logs.{note_stands}
use Rattle.run_check.proofs.FirstLemmas.{reached-none, reached-more, breaks-here, holds-whole}
use Rattle.run_check.proofs.ItemLemmas.{all-pass-front, all-pass-back}
use Rattle.run_check.proofs.stands.astray_at.Goals as goal

pub loop-at-init : goal.loop-at-init
loop-at-init c =
    let p = note_stands c.args.shape.now c.args.lane in
    let asks = λ (s : Unit {0}) (n : Note). IsTrue (p n) in
    let holds = λ (s : Unit {0}) (ns : List Note). IsTrue (list_all p ns) in
    reached-none asks (λ s n. s) holds (λ s. refl) (all-pass-front p) (all-pass-back p) tt c.args.notes.now tt refl

pub returns-then-not-note_stands : goal.returns-then-not-note_stands
returns-then-not-note_stands c =
    let p = note_stands c.args.shape.now c.args.lane in
    let asks = λ (s : Unit {0}) (n : Note). IsTrue (p n) in
    let holds = λ (s : Unit {0}) (ns : List Note). IsTrue (list_all p ns) in
    let notes = c.args.notes.now in
    let i = c.loop-at.at in
    let note = c.index-notes-at.result in
    let there : i < length notes = search rules in
    let step : drop i notes ≡ note ∷ drop (i + 1) notes =
    drop_more notes i note there ∙ ap (λ (n : Note). n ∷ drop (i + 1) notes) (sym c.index-notes-at.is) in
    breaks-here asks (λ s n. s) holds (λ s. refl) (all-pass-front p) (all-pass-back p) tt notes i tt note
    (drop (i + 1) notes) c.loop-at.invariant step
    (λ stands. false≢true (sym c.if-not-note_stands.true ∙ c.note_stands.ensures ∙ stands))

pub loop-at-preserved : goal.loop-at-preserved
loop-at-preserved c =
    let p = note_stands c.args.shape.now c.args.lane in
    let asks = λ (s : Unit {0}) (n : Note). IsTrue (p n) in
    let holds = λ (s : Unit {0}) (ns : List Note). IsTrue (list_all p ns) in
    let notes = c.args.notes.now in
    let i = c.loop-at.at in
    let note = c.index-notes-at.result in
    let there : i < length notes = search rules in
    let step : drop i notes ≡ note ∷ drop (i + 1) notes =
    drop_more notes i note there ∙ ap (λ (n : Note). n ∷ drop (i + 1) notes) (sym c.index-notes-at.is) in
    reached-more asks (λ s n. s) holds (λ s. refl) (all-pass-front p) (all-pass-back p) tt notes i tt note
    (drop (i + 1) notes) c.loop-at.invariant step tt refl
    (sym c.note_stands.ensures ∙ c.if-not-note_stands.false)

pub returns : goal.returns
returns c =
    let p = note_stands c.args.shape.now c.args.lane in
    let asks = λ (s : Unit {0}) (n : Note). IsTrue (p n) in
    let holds = λ (s : Unit {0}) (ns : List Note). IsTrue (list_all p ns) in
    let notes = c.args.notes.now in
    let i = c.loop-at.at in
    let past : length notes ≤ i = search rules in
    holds-whole asks (λ s n. s) holds (λ s. refl) (all-pass-front p) (all-pass-back p) tt notes i tt
    c.loop-at.invariant (drop_all i notes past)
