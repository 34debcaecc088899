use Rattle.std.proofs.Common.{◌≡◌, ◌+◌, drop}
use Rattle.run_picture.specs.declared.thinning.TheConstants.{BLOCK_LIMIT}
use Rattle.run_picture.specs.Plotting.{taking_count}
use Rattle.run_picture.proofs.picture.are_few.Given as goal

abbrev pub invariant-loop-plot : goal.invariant-loop-plot
invariant-loop-plot l = taking_count l.plots + l.room ≡ BLOCK_LIMIT + taking_count (drop l.plot-index l.plots)
