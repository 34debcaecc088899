use Rattle.std.proofs.Common.{◌≡◌, ◌<◌, ℕ, length, get_or, sym, ap, arith, ◌∙◌, length-take}
use Rattle.std.specs.Prelude.{min}
use Rattle.std.proofs.lemmas.List.{get_or-take}
use Rattle.pool_law.specs.Counts.{count_from}
use Rattle.lane_reader.specs.Reading.{entries}
use Rattle.lane_reader.specs.Counting.{count_after}
use Rattle.lane_reader.proofs.CountLemmas.{count-next}
use Rattle.lane_reader.proofs.ReadingLemmas.{take-min, length-entries}
use Rattle.lane_reader.proofs.log.Log.count.Goals as goal

pub loop-note-preserved : goal.loop-note-preserved
loop-note-preserved c =
    let log = c.args.self.now in
    let i = c.loop-note.note-index in
    let m = c.min.result in
    let note = c.note-item.result in
    let long = length-take m log.notes.now in
    let inside : i < m = omega (arith, c.loop-note-test.true, c.min.ensures) in
    let there : i < length log.notes.now = omega (arith, c.loop-note-test.true, c.min.ensures) in
    let is : note ≡ get_or log.notes.now i note = c.note-item.is ∙ get_or-take m log.notes.now i note inside in
    record {
      within = omega arith;
      same =
          c.count_after-count.ensures.same
          ∙ ap (λ (k : ℕ). count_after c.args.root.now k note) c.loop-note.invariant.same
          ∙ sym (count-next c.args.root.now c.args.first log.notes.now log.told.now i note there is);
    }

pub returns : goal.returns
returns c =
    let log = c.args.self.now in
    let i = c.loop-note.note-index in
    let m = c.min.result in
    let long = length-take m log.notes.now in
    let whole = length-entries log.notes.now log.told.now in
    let all : i ≡ min (length (entries log)) c.args.at.place =
    omega (arith, c.loop-note-test.false, c.min.ensures, c.loop-note.auto.note-index-end) in
    c.loop-note.invariant.same ∙ ap (count_from c.args.root.now c.args.first)
    (take-min (entries log) c.args.at.place i all)
