use Rattle.std.proofs.Common.{rules, ◌≡◌, ◌+◌, ◌<◌, ◌≤◌, [], ◌∷◌, ◌++◌, length, take, sym, ap, ◌∙◌}
use Rattle.std.proofs.lemmas.List.{take_more, take_all}
use Rattle.pool_law.specs.declared.note.Note.{Note}
use Rattle.run_check.proofs.ObjectHistoryLemmas.{covers-kept, covers-push, keeps-both}
use Rattle.run_check.proofs.histories.Histories.add_all.Goals as goal

pub returns-in-Some : goal.returns-in-Some
returns-in-Some c logs theirs are =
    rw c.in-Some.is at (c.in_ok-broken.ensures logs theirs (c.loop-note.invariant logs theirs are).0)

pub loop-note-preserved : goal.loop-note-preserved
loop-note-preserved c logs theirs are =
    let old = c.loop-note.self in
    let new = c.add_note.new.self in
    let notes = c.args.notes.now in
    let i = c.loop-note.note-index in
    let note = c.note-item.result in
    let inv = c.loop-note.invariant logs theirs are in
    let there : i < length notes = search rules in
    let front : take (i + 1) notes ≡ take i notes ++ note ∷ [] =
    take_more notes i note there ∙ ap (λ (n : Note). take i notes ++ n ∷ []) (sym c.note-item.is) in
    let more = rw c.in_default.is at (c.in_ok-broken.ensures logs theirs inv.0) in (
      more.0,
      keeps-both c.args.self.now old new inv.1 more.1,
      rw front (covers-push new (take i notes) note (covers-kept old new (take i notes) more.1 inv.2) more.2),
    )

pub returns : goal.returns
returns c logs theirs are =
    let inv = c.loop-note.invariant logs theirs are in
    let past : length c.args.notes.now ≤ c.loop-note.note-index = search rules in
    (inv.0, inv.1, rw take_all at inv.2)
