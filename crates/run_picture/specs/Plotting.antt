-- The arenas of a run as the program keeps them. No public clause cites this module.
use Rattle.std.specs.Prelude.{◌≡◌, ℕ, ◌+◌, ◌≤◌, List, [], ◌∷◌, ◌++◌, length, map, filter}
use Rattle.size_classes.specs.Sizes.{below}
use Rattle.pool_law.specs.declared.run.Run.{Run}
use Rattle.run_picture.specs.declared.thinning.TheConstants.{BLOCK_LIMIT}
use Rattle.run_picture.specs.declared.chart.Chart.{Chart}
use Rattle.run_picture.specs.declared.marks.Mark.{Mark}
use Rattle.run_picture.specs.declared.marks.Drawing.{Drawing}
use Rattle.run_picture.specs.declared.blocks.Block.{Block}
use Rattle.run_picture.specs.declared.plots.Plot.{Plot}
use Rattle.run_picture.specs.Blocks.{arena_blocks}
use Rattle.run_picture.specs.Charts.{block_mark, is_kept, block_marks, IsChart, AreCharts, all_takings}

-- the takings of a chart that are kept, as marks
abbrev pub kept_marks : ℕ → Chart → List Block → List Mark
kept_marks least chart blocks = map (block_mark chart) (filter (is_kept chart least) blocks)

-- those of all plots
abbrev pub plot_marks : ℕ → List Plot → List Mark
plot_marks least [] = []
plot_marks least (p ∷ plots) = kept_marks least p.chart p.blocks.items ++ plot_marks least plots

-- how many takings plots have
abbrev pub taking_count : List Plot → ℕ
taking_count [] = 0
taking_count (p ∷ plots) = length p.blocks.items + taking_count plots

-- a plot has the takings of its arena, and a moment for each of its notes
pub record IsPlot (run : Run) (p : Plot) : Type 0 where
  pub chart : IsChart run p.chart
  pub blocks : p.blocks.items ≡ arena_blocks run p.chart.arena

abbrev pub ArePlots : Run → List Plot → Type 0
ArePlots run [] = Unit {0}
ArePlots run (p ∷ plots) = IsPlot run p × ArePlots run plots

-- the arenas of plots
abbrev pub arenas_in : List Plot → List ℕ
arenas_in plots = map (λ p. p.chart.arena) plots

-- a drawing has a rectangle for each taking that is kept
pub record HasBlocks (run : Run) (drawing : Drawing) : Type 0 where
  pub charts : List Chart
  pub least : ℕ
  pub arenas : map (λ c. c.arena) charts ≡ below run.shape.arenas
  pub placed : AreCharts run charts
  pub blocks : drawing.blocks ≡ block_marks least run charts
  pub all : all_takings run charts ≤ BLOCK_LIMIT → least ≡ 0
