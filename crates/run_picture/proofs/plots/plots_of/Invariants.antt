use Rattle.std.proofs.Common.{◌≡◌}
use Rattle.size_classes.specs.Sizes.{below}
use Rattle.run_picture.specs.Plotting.{ArePlots, arenas_in}
use Rattle.run_picture.proofs.plots.plots_of.Given as goal

abbrev pub invariant-loop-arena : goal.invariant-loop-arena
invariant-loop-arena l = record {
  arenas : arenas_in l.plots.items ≡ below l.arena;
  plots : ArePlots l.run l.plots.items;
}
