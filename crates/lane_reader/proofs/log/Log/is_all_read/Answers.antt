use Rattle.std.proofs.Common.{[], Option, sym, ap, ◌∙◌}
use Rattle.lane_reader.specs.declared.log.At.{At}
use Rattle.lane_reader.specs.Reading.{passes}
use Rattle.lane_reader.proofs.PieceLemmas.{read-whole}
use Rattle.lane_reader.proofs.log.Log.is_all_read.Goals as goal

pub returns-in-Some : goal.returns-in-Some
returns-in-Some c r read =
    sym
    (read-whole c.args.self.now r c.in-Some.at
    (read ∙ ap (λ (o : Option At). passes [] c.args.self.now o) c.in-Some.is))
