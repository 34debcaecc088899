use Rattle.std.proofs.Common.{◌≡◌, ◌++◌, drop}
use Rattle.run_picture.specs.Plotting.{plot_marks}
use Rattle.run_picture.proofs.picture.block_layer.Given as goal

abbrev pub invariant-loop-plot : goal.invariant-loop-plot
invariant-loop-plot l =
    l.marks.items ++ plot_marks l.least (drop l.plot-index l.plots) ≡ plot_marks l.least l.plots
