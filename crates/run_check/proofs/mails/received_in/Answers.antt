use Rattle.std.proofs.Common.{rules, ◌≡◌, ◌+◌, ◌<◌, List, ◌∷◌, ◌++◌, length, drop, append_assoc, sym, ap, ◌∙◌}
use Rattle.std.proofs.lemmas.List.{drop_more}
use Rattle.pool_law.specs.Kinds.{passing}
use Rattle.pool_law.specs.Mails.{come}
use Rattle.run_check.specs.declared.gathering.HistoryNote.{HistoryNote}
use Rattle.run_check.specs.Gathering.{notes_data}
use Rattle.run_check.specs.Mailing.{received_among, all_passed}
use Rattle.run_check.proofs.mails.received_in.Goals as goal

pub loop-note-preserved : goal.loop-note-preserved
loop-note-preserved c =
    let notes = c.args.notes.now in
    let i = c.loop-note.note-index in
    let note = c.note-item.result in
    let there : i < length notes = search rules in
    let step : drop i notes ≡ note ∷ drop (i + 1) notes =
    drop_more notes i note there ∙ ap (λ (s : HistoryNote). s ∷ drop (i + 1) notes) (sym c.note-item.is) in
    let old = all_passed c.loop-note.all.items in
    let rest = received_among (notes_data (drop (i + 1) notes)) in
    ap (λ ps. ps ++ rest) c.in_ok-push_received.ensures
    ∙ append_assoc old (come note.number (passing note.did.now)) rest
    ∙ ap (λ (xs : List HistoryNote). old ++ received_among (notes_data xs)) (sym step)
    ∙ c.loop-note.invariant
