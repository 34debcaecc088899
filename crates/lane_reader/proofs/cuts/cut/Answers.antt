use Rattle.std.proofs.Common.{◌≡◌, ℕ, length, take, arith}
use Rattle.std.specs.Prelude.{min, Vec}
use Rattle.std.specs.declared.alloc.Global.{Global}
use Rattle.std.proofs.lemmas.List.Elements.{All-take}
use Rattle.std.proofs.lemmas.Result.{IfOk-weaker}
use Rattle.pool_law.specs.LaneLaw.{note_counts}
use Rattle.lane_reader.specs.Candidates.{HasFewNames}
use Rattle.lane_reader.specs.Cutting.{AreNoteCounts}
use Rattle.lane_reader.specs.Reading.{entries}
use Rattle.lane_reader.proofs.NoteCountLemmas.{only-these, wider}
use Rattle.lane_reader.proofs.RunLemmas.{few-names}
use Rattle.lane_reader.proofs.cuts.cut.Goals as goal

pub cut_all-requires-clause-names : goal.cut_all-requires-clause-names
cut_all-requires-clause-names c =
    All-take HasFewNames c.min-count.result c.args.commands.now
    (few-names c.args.shape.now c.args.commands.now c.requires.commands.fit)

pub returns-clause-read : goal.returns-clause-read
returns-clause-read c =
    let shape = c.args.shape.now in
    let lane = c.args.lane in
    let cs = c.args.commands.now in
    let rs = c.args.replies.now in
    let es = entries c.args.log.now in
    let k = c.min-count.result in
    let least : k ≡ min (length cs) (length rs) = omega (arith, c.min-count.ensures) in
    IfOk-weaker c.cut_all.result
    (λ (v : Vec ℕ Global). AreNoteCounts shape lane (take k cs) (take k rs) es v.items)
    (λ (v : Vec ℕ Global). AreNoteCounts shape lane cs rs es v.items)
    (λ v cut. wider shape lane cs rs es v.items k least cut) c.cut_all.ensures

pub returns-clause-only : goal.returns-clause-only
returns-clause-only c answered same all =
    let shape = c.args.shape.now in
    let lane = c.args.lane in
    let cs = c.args.commands.now in
    let rs = c.args.replies.now in
    let es = entries c.args.log.now in
    let k = c.min-count.result in
    let least : k ≡ min (length cs) (length rs) = omega (arith, c.min-count.ensures) in
    IfOk-weaker c.cut_all.result
    (λ (v : Vec ℕ Global). AreNoteCounts shape lane (take k cs) (take k rs) es v.items)
    (λ (v : Vec ℕ Global). v.items ≡ note_counts answered)
    (λ v cut.
    only-these shape lane cs rs es v.items (wider shape lane cs rs es v.items k least cut) answered same all)
    c.cut_all.ensures
