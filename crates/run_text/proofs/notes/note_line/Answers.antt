use Rattle.std.proofs.Common.{◌∷◌, ◌++◌, codes, decimal, refl}
use Rattle.pool_law.specs.Text.{note_words}
use Rattle.run_text.proofs.WordLemmas.{passed_on}
use Rattle.run_text.proofs.notes.note_line.Goals as goal

pub returns-in_err-lane : goal.returns-in_err-lane
returns-in_err-lane c = λ lane note more low fits e.
    let w = c.next-note.ensures (codes "note") (decimal lane ∷ (note_words note ++ more)) refl e in
    let r0 = rw c.in_err-lane.was at (c.small.ensures lane (note_words note ++ more) low w.1) in
    passed_on _ _ _ _ _ c.from_residual.ensures.1 r0

pub returns-in_err-note : goal.returns-in_err-note
returns-in_err-note c = λ lane note more low fits e.
    let w = c.next-note.ensures (codes "note") (decimal lane ∷ (note_words note ++ more)) refl e in
    let r0 = rw c.in_ok-lane.was at (c.small.ensures lane (note_words note ++ more) low w.1) in
    let r1 = rw c.in_err-note.was at (c.note_in.ensures note more fits r0.1) in
    passed_on _ _ _ _ _ c.from_residual-in_err-note.ensures.1 r1

pub returns : goal.returns
returns c = λ lane note more low fits e.
    let w = c.next-note.ensures (codes "note") (decimal lane ∷ (note_words note ++ more)) refl e in
    let r0 = rw c.in_ok-lane.was at (c.small.ensures lane (note_words note ++ more) low w.1) in
    let r1 = rw c.in_ok-note.was at (c.note_in.ensures note more fits r0.1) in
    (λ k. (r0.0 k, r1.0 k), r1.1)
