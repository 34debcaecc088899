use Rattle.std.proofs.Common.{rules, ◌≡◌, ℕ, ◌+◌, ◌<◌, ◌≤◌, [], ◌∷◌, drop, length, sym, ap, arith, ◌∙◌, suc}
use Rattle.pool_law.specs.Counts.{count_from}
use Rattle.lane_reader.specs.Reading.{entries, entry, told_at}
use Rattle.lane_reader.specs.Counting.{count_in}
use Rattle.lane_reader.proofs.ReadingLemmas.{entries-from, entries-past}
use Rattle.lane_reader.proofs.CountLemmas.{count-within}
use Rattle.lane_reader.proofs.lane.Lane.pass.Goals as goal

pub loop-note-preserved : goal.loop-note-preserved
loop-note-preserved c =
    let log = c.args.log.now in
    let i = c.loop-note.note-index in
    let note = c.note-item.result in
    let there : i < length log.notes.now = search rules in
    let more : suc i ≡ i + 1 = omega arith in
    let told = told_at log i in
    let step : drop i (entries log) ≡ entry note told ∷ drop (i + 1) (entries log) =
    entries-from log.notes.now log.told.now i note there
    ∙ (λ j. entry (sym c.note-item.is j) told ∷ drop (more j) (entries log)) in
    record {
      names = c.loop-note.invariant.names;
      asked = c.loop-note.invariant.asked;
      within = λ root.
          omega (
            arith,
            c.in_ok-pass.ensures root,
            c.loop-note.invariant.within root,
            count-within root (count_in c.loop-note.self.counts root) note,
          );
      counts = λ root.
          ap (λ (k : ℕ). count_from root k (drop (i + 1) (entries log))) (c.in_ok-pass.ensures root)
          ∙ sym (ap (count_from root (count_in c.loop-note.self.counts root)) step)
          ∙ c.loop-note.invariant.counts root;
    }

pub returns-clause-counts : goal.returns-clause-counts
returns-clause-counts c root =
    let log = c.args.log.now in
    let i = c.loop-note.note-index in
    let past : length log.notes.now ≤ i = search rules in
    let none : drop i (entries log) ≡ [] = entries-past log.notes.now log.told.now i past in
    sym (ap (count_from root (count_in c.loop-note.self.counts root)) none) ∙ c.loop-note.invariant.counts root
