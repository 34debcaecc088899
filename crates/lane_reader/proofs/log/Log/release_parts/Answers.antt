use Rattle.std.proofs.Common.{sym, ◌∙◌, rules}
use Rattle.lane_reader.specs.Reading.{log_from}
use Rattle.lane_reader.proofs.PartLemmas.{released-on}
use Rattle.lane_reader.proofs.log.Log.release_parts.Goals as goal

pub returns-in_err-here : goal.returns-in_err-here
returns-in_err-here c before are =
    let log = log_from before c.args.self.now c.loop-part.here in
    rw c.from_residual.ensures
    (sym (c.loop-part.invariant before are)
    ∙ released-on c.args.parts.now c.loop-part.part-index c.part-item.result (search rules) c.part-item.is
    c.args.shape.now log _ (c.in_err-here.ensures before are))

pub loop-part-preserved : goal.loop-part-preserved
loop-part-preserved c before are =
    let log = log_from before c.args.self.now c.loop-part.here in
    sym
    (released-on c.args.parts.now c.loop-part.part-index c.part-item.result (search rules) c.part-item.is
    c.args.shape.now log _ (c.in_ok-here.ensures before are))
    ∙ c.loop-part.invariant before are
