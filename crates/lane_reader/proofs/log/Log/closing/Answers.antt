use Rattle.std.proofs.Common.{refl}
use Rattle.size_classes.specs.Sizes.{below}
use Rattle.lane_reader.proofs.log.Log.closing.Goals as goal

pub returns : goal.returns
returns c before = c.drain.ensures before (below 40) refl
