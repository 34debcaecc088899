use Rattle.run_picture.proofs.PlotLemmas.{plots-push}
use Rattle.run_picture.proofs.plots.plots_of.Goals as goal

pub loop-arena-preserved : goal.loop-arena-preserved
loop-arena-preserved c =
    let more =
    plots-push c.args.run.now c.loop-arena.plots.items c.push.new.self.items c.in_ok-plot.plot c.loop-arena.arena
    c.in_ok-push.ensures.items c.loop-arena.invariant.arenas c.loop-arena.invariant.plots c.in_ok-plot.ensures.arena
    c.in_ok-plot.ensures.plot in
    record { arenas = more.0; plots = more.1 }
