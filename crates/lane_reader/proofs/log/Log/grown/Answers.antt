use Rattle.lane_reader.specs.Reading.{log_from}
use Rattle.lane_reader.proofs.GrowLemmas.{grown-none}
use Rattle.lane_reader.proofs.log.Log.grown.Goals as goal

pub returns-in_err-capacity : goal.returns-in_err-capacity
returns-in_err-capacity c before =
    rw c.from_residual.ensures
    (grown-none c.args.root.now c.args.size c.args.region.now (log_from before c.args.self.now c.args.at)
    (c.in_default.ensures before) (c.in_err-capacity.ensures before))
