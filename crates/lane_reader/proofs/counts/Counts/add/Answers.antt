use Rattle.std.proofs.Common.{rules, ◌≡◌, ◌+◌, ◌∙◌}
use Rattle.std.proofs.lemmas.Result.{on_ok_weaker}
use Rattle.lane_reader.specs.Counting.{count_in}
use Rattle.lane_reader.proofs.CountLemmas.{count-added}
use Rattle.lane_reader.proofs.counts.Counts.add.Goals as goal

pub returns : goal.returns
returns c other =
    let root = c.args.root.now in
    let more : c.of-count.result + 1 ≡ count_in c.args.self.now root + 1 = search rules in
    on_ok_weaker c.put.result (λ e. e ∙ count-added root other (count_in c.args.self.now) (c.of-count.result + 1) more)
    (c.put.ensures other)
