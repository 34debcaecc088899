-- What a picture shows of a run.
use Rattle.std.specs.Prelude.{◌≡◌, ℕ, ◌≤◌, List, map, Option, Some, None}
use Rattle.size_classes.specs.Sizes.{below}
use Rattle.pool_law.specs.declared.run.Run.{Run}
use Rattle.pool_law.specs.Limits.{IsShape}
use Rattle.pool_law.specs.Text.{Text}
use Rattle.run_picture.specs.declared.thinning.TheConstants.{BLOCK_LIMIT}
use Rattle.run_picture.specs.declared.chart.Chart.{Chart}
use Rattle.run_picture.specs.declared.marks.Drawing.{Drawing}
use Rattle.run_picture.specs.Charts.{block_marks, AreCharts, all_takings}
use Rattle.run_picture.specs.Svg.{svg_of}

-- the text is a picture with a chart for each arena, and a rectangle for each taking of each arena
-- that is out at the end, or was out for so many moments: each, where there are few enough
pub record IsPicture (run : Run) (text : Text) : Type 0 where
  pub drawing : Drawing
  pub charts : List Chart
  pub least : ℕ
  pub text_is : text ≡ svg_of drawing
  pub arenas : map (λ c. c.arena) charts ≡ below run.shape.arenas
  pub placed : AreCharts run charts
  pub blocks : drawing.blocks ≡ block_marks least run charts
  pub all : all_takings run charts ≤ BLOCK_LIMIT → least ≡ 0

-- a run is drawn exactly where its measures are within their limits
abbrev pub Shows : Run → Option Text → Type 0
Shows run None = IsShape run.shape → ⊥
Shows run (Some text) = IsShape run.shape × IsPicture run text
