use Rattle.std.proofs.Common.{rules, arith, ◌≡◌, ℕ, ◌+◌, ◌<◌, ◌≤◌, List, [], ◌∷◌, ◌++◌, length, take, drop, append_assoc, sym, ap, ◌∙◌, append-nil}
use Rattle.std.proofs.lemmas.List.{drop_more, drop_all}
use Rattle.pool_law.specs.declared.note.Note.{Note}
use Rattle.pool_law.specs.declared.report.Leak.{Leak}
use Rattle.pool_law.specs.Leaks.{births}
use Rattle.run_check.specs.Reporting.{leaks_in}
use Rattle.run_check.proofs.LeakLemmas.{leaks-front, one-birth}
use Rattle.run_check.proofs.ReportLemmas.{goes-behind, strays-within}
use Rattle.run_check.proofs.leaks.lane_leaks.Goals as goal

pub loop-note-preserved : goal.loop-note-preserved
loop-note-preserved c =
    let r = c.args.report.now in
    let L = leaks_in r.shape.now r.histories.now r.tallies.now c.args.lane in
    let leaks = r.leaks.now in
    let notes = c.args.notes.now in
    let i = c.loop-note.note-index in
    let serial = c.loop-note.before + 1 in
    let note = c.note-item.result in
    let next = c.in-Some.next in
    let these : List Leak = L serial (note ∷ []) in
    let more : List Leak = L (next.1 + 1) (drop (i + 1) notes) in
    let there : i < length notes = search rules in
    let step : drop i notes ≡ note ∷ drop (i + 1) notes =
    drop_more notes i note there ∙ ap (λ (n : Note). n ∷ drop (i + 1) notes) (sym c.note-item.is) in
    let told = rw c.in-Some.is at c.in_ok-found.ensures in
    let front : L serial (drop i notes) ≡ these ++ more =
    ap (λ (ns : List Note). L serial ns) step
    ∙ leaks-front r.shape.now r.histories.now r.tallies.now c.args.lane serial note (drop (i + 1) notes)
    ∙ ap (λ (k : ℕ). these ++ L k (drop (i + 1) notes)) (omega (arith, told.1)) in
    record {
      expected =
          goes-behind leaks these more (take c.args.from leaks ++ L 1 notes) c.loop-note.at next.0 told.0
          (c.loop-note.invariant.expected ∙ ap (λ (ws : List Leak). take c.loop-note.at leaks ++ ws) front);
      inside = told.0.1;
      few = omega (arith, told.1, c.loop-note.invariant.few, one-birth note);
    }

pub after_note-requires-clause-before : goal.after_note-requires-clause-before
after_note-requires-clause-before c =
    let there : c.loop-note.note-index < length c.args.notes.now = search rules in
    omega (arith, there, c.loop-note.invariant.few)

pub returns-in_default : goal.returns-in_default
returns-in_default c rest =
    let r = c.args.report.now in
    let L = leaks_in r.shape.now r.histories.now r.tallies.now c.args.lane in
    let leaks = r.leaks.now in
    let notes = c.args.notes.now in
    let i = c.loop-note.note-index in
    let serial = c.loop-note.before + 1 in
    let note = c.note-item.result in
    let these : List Leak = L serial (note ∷ []) in
    let front : List Leak = take c.args.from leaks in
    let read : List Leak = take c.loop-note.at leaks in
    let more : List Leak = L (serial + length (births (note ∷ []))) (drop (i + 1) notes) in
    let there : i < length notes = search rules in
    let step : drop i notes ≡ note ∷ drop (i + 1) notes =
    drop_more notes i note there ∙ ap (λ (n : Note). n ∷ drop (i + 1) notes) (sym c.note-item.is) in
    let left : L serial (drop i notes) ≡ these ++ more =
    ap (λ (ns : List Note). L serial ns) step
    ∙ leaks-front r.shape.now r.histories.now r.tallies.now c.args.lane serial note (drop (i + 1) notes) in
    let all : front ++ (L 1 notes ++ rest) ≡ read ++ (these ++ (more ++ rest)) =
    sym (append_assoc front (L 1 notes) rest)
    ∙ ap (λ (ws : List Leak). ws ++ rest)
    (c.loop-note.invariant.expected ∙ ap (λ (ws : List Leak). read ++ ws) left)
    ∙ append_assoc read (these ++ more) rest
    ∙ ap (λ (ws : List Leak). read ++ ws) (append_assoc these more rest) in
    strays-within leaks these (more ++ rest) (front ++ (L 1 notes ++ rest)) c.loop-note.at c.loop-note.at
    (rw c.in_default.is at c.in_ok-found.ensures) all

pub returns : goal.returns
returns c =
    let r = c.args.report.now in
    let L = leaks_in r.shape.now r.histories.now r.tallies.now c.args.lane in
    let leaks = r.leaks.now in
    let notes = c.args.notes.now in
    let i = c.loop-note.note-index in
    let past : length notes ≤ i = search rules in
    let none : L (c.loop-note.before + 1) (drop i notes) ≡ [] =
    ap (λ (ns : List Note). L (c.loop-note.before + 1) ns) (drop_all i notes past) in (
      sym (c.loop-note.invariant.expected
          ∙ ap (λ (ws : List Leak). take c.loop-note.at leaks ++ ws) none
          ∙ append-nil (take c.loop-note.at leaks)),
      c.loop-note.invariant.inside,
    )
