-- The rectangles of plots are those of their arenas' takings.
use Rattle.std.proofs.Common.{◌≡◌, ℕ, suc, ◌+◌, ◌≤◌, arith, subst, List, [], ◌∷◌, ◌++◌, length, map, refl, sym, ap, ◌∙◌}
use Rattle.pool_law.specs.declared.run.Run.{Run}
use Rattle.run_picture.specs.declared.chart.Chart.{Chart}
use Rattle.run_picture.specs.declared.marks.Mark.{Mark}
use Rattle.run_picture.specs.declared.blocks.Block.{Block}
use Rattle.run_picture.specs.declared.plots.Plot.{Plot}
use Rattle.run_picture.specs.Blocks.{arena_blocks}
use Rattle.run_picture.specs.Charts.{block_marks, AreCharts, all_takings}
use Rattle.run_picture.specs.Plotting.{kept_marks, plot_marks, taking_count, IsPlot, ArePlots, arenas_in, HasBlocks}
use Rattle.run_picture.specs.Pictures.{IsPicture}
use Rattle.run_picture.specs.Svg.{svg_of}
use Rattle.run_picture.specs.declared.marks.Drawing.{Drawing}
use Rattle.run_picture.specs.declared.thinning.TheConstants.{BLOCK_LIMIT}
use Rattle.pool_law.specs.Text.{Text}
use Rattle.size_classes.specs.Sizes.{below}
use Rattle.std.proofs.lemmas.List.{map-append}

pub ArePlots-push : (run : Run) (plots : List Plot) (p : Plot) → ArePlots run plots → IsPlot run p →
    ArePlots run (plots ++ p ∷ [])
ArePlots-push run [] p all is = (is, tt)
ArePlots-push run (q ∷ plots) p all is = (all.0, ArePlots-push run plots p all.1 is)

abbrev pub charts_in : List Plot → List Chart
charts_in [] = []
charts_in (p ∷ plots) = p.chart ∷ charts_in plots

pub arenas-are : (plots : List Plot) → map (λ c. c.arena) (charts_in plots) ≡ arenas_in plots
arenas-are [] = refl
arenas-are (p ∷ plots) = ap (λ (ns : List ℕ). p.chart.arena ∷ ns) (arenas-are plots)

pub charts-are : (run : Run) (plots : List Plot) → ArePlots run plots → AreCharts run (charts_in plots)
charts-are run [] all = tt
charts-are run (p ∷ plots) all = (all.0.chart, charts-are run plots all.1)

pub counts-are : (run : Run) (plots : List Plot) → ArePlots run plots →
    taking_count plots ≡ all_takings run (charts_in plots)
counts-are run [] all = refl
counts-are run (p ∷ plots) all =
    ap (λ (bs : List Block). length bs + taking_count plots) all.0.blocks
    ∙ ap (λ n. length (arena_blocks run p.chart.arena) + n) (counts-are run plots all.1)

pub marks-are : (least : ℕ) (run : Run) (plots : List Plot) → ArePlots run plots →
    plot_marks least plots ≡ block_marks least run (charts_in plots)
marks-are least run [] all = refl
marks-are least run (p ∷ plots) all =
    ap (λ (bs : List Block). kept_marks least p.chart bs ++ plot_marks least plots) all.0.blocks
    ∙ ap (λ (ms : List Mark). kept_marks least p.chart (arena_blocks run p.chart.arena) ++ ms)
    (marks-are least run plots all.1)

arenas-push : (plots : List Plot) (p : Plot) (n : ℕ) → arenas_in plots ≡ below n → p.chart.arena ≡ n →
    arenas_in (plots ++ p ∷ []) ≡ below (n + 1)
arenas-push plots p n is at =
    let next : n + 1 ≡ suc n = omega arith in
    map-append (λ (q : Plot). q.chart.arena) plots (p ∷ [])
    ∙ ap (λ (ns : List ℕ). ns ++ p.chart.arena ∷ []) is
    ∙ ap (λ k. below n ++ k ∷ []) at
    ∙ sym (ap below next)

-- one more arena
pub plots-push : (run : Run) (old new : List Plot) (p : Plot) (n : ℕ) → new ≡ old ++ p ∷ [] →
    arenas_in old ≡ below n → ArePlots run old → p.chart.arena ≡ n → IsPlot run p →
    (arenas_in new ≡ below (n + 1)) × ArePlots run new
plots-push run old new p n more is all at plot = (
  ap arenas_in more ∙ arenas-push old p n is at,
  subst (λ ps. ArePlots run ps) (sym more) (ArePlots-push run old p all plot),
)

-- the rectangles of these plots are those of the run
pub has-blocks : (run : Run) (plots : List Plot) (least : ℕ) (drawing : Drawing) →
    arenas_in plots ≡ below run.shape.arenas → ArePlots run plots →
    (taking_count plots ≤ BLOCK_LIMIT → least ≡ 0) → drawing.blocks ≡ plot_marks least plots →
    HasBlocks run drawing
has-blocks run plots least drawing is all few marks = record {
  charts = charts_in plots;
  least = least;
  arenas = arenas-are plots ∙ is;
  placed = charts-are run plots all;
  blocks = marks ∙ marks-are least run plots all;
  all = λ h. few (omega (arith, h, counts-are run plots all));
}

-- a text of such a drawing is a picture
pub is-picture : (run : Run) (drawing : Drawing) (text : Text) → HasBlocks run drawing → text ≡ svg_of drawing →
    IsPicture run text
is-picture run drawing text has is = record {
  drawing = drawing;
  charts = has.charts;
  least = has.least;
  text_is = is;
  arenas = has.arenas;
  placed = has.placed;
  blocks = has.blocks;
  all = has.all;
}
