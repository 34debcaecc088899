use Rattle.std.proofs.Common.{◌≡◌, ◌≤◌, ◌∙◌, sym, subst, ap, List}
use Rattle.run_picture.specs.declared.plots.Plot.{Plot}
use Rattle.run_picture.specs.declared.thinning.TheConstants.{BLOCK_LIMIT}
use Rattle.run_picture.specs.Plotting.{plot_marks, taking_count}
use Rattle.run_picture.proofs.PlotLemmas.{has-blocks}
use Rattle.run_picture.proofs.picture.drawing_of.Goals as goal

pub returns : goal.returns
returns c =
    let plots = c.in_ok-plots.plots.items in
    let counted : c.deref.result.now ≡ plots = cc in
    let drawn : c.deref-6.result.now ≡ plots = cc in
    has-blocks c.args.run.now plots c.in_ok-least.least _ c.in_ok-plots.ensures.arenas c.in_ok-plots.ensures.plots
    (λ few. c.in_ok-least.ensures (subst (λ (ps : List Plot). taking_count ps ≤ BLOCK_LIMIT) (sym counted) few))
    (c.in_ok-blocks.ensures ∙ ap (λ (ps : List Plot). plot_marks c.in_ok-least.least ps) drawn)
