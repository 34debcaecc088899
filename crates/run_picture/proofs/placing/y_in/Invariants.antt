use Rattle.std.proofs.Common.{◌≡◌, drop}
use Rattle.run_picture.specs.Charts.{y_in}
use Rattle.run_picture.proofs.placing.y_in.Given as goal

abbrev pub invariant-loop-cut : goal.invariant-loop-cut
invariant-loop-cut l = y_in l.y (drop l.cut-index l.cuts) l.offset ≡ y_in 0 l.cuts l.offset
