use Rattle.std.proofs.Common.{◌≡◌, [], Some, arith}
use Rattle.size_classes.specs.Sizes.{class_of}
use Rattle.pool_law.specs.Limits.{geometry_of}
use Rattle.lane_reader.specs.Reading.{log_from}
use Rattle.lane_reader.proofs.GrowLemmas.{keeps-room, asked-none, obtained-none}
use Rattle.lane_reader.proofs.log.Log.regrow.Goals as goal

pub returns-in_err-capacity : goal.returns-in_err-capacity
returns-in_err-capacity c before =
    rw c.from_residual.ensures
    (asked-none c.args.shape.now c.args.lane c.args.root.now c.args.size
    (log_from before c.args.self.now c.args.at) (c.in_err-capacity.ensures before))

pub obtain-requires-clause-asked : goal.obtain-requires-clause-asked
obtain-requires-clause-asked c =
    let log = c.args.self.now in
    let kept =
    keeps-room c.args.root.now c.args.size (log_from [] log c.args.at) (log_from [] log c.in_ok-capacity.behind)
    c.in_ok-capacity.capacity (c.in_ok-capacity.ensures []) in
    omega (arith, kept, c.requires.asked)

pub returns-in_err-region : goal.returns-in_err-region
returns-in_err-region c before =
    let log = c.args.self.now in
    let class : class_of (geometry_of c.args.shape.now) c.args.size ≡ Some c.in_ok-class.class =
    cc (c.requires.classes, c.in_ok-class.ensures.class) in
    rw c.from_residual-in_err-region.ensures
    (obtained-none c.args.shape.now c.args.lane c.args.root.now c.args.size (log_from before log c.args.at)
    c.in_ok-capacity.capacity c.in_ok-class.class (log_from before log c.in_ok-capacity.behind)
    (c.in_ok-capacity.ensures before) class (omega arith) (c.in_err-region.ensures before))
