use Rattle.run_picture.proofs.PlotLemmas.{is-picture}
use Rattle.run_picture.proofs.picture.picture_of.Goals as goal

pub returns : goal.returns
returns c = (
  c.is_shape.ensures.0 c.if-not-is_shape.false,
  is-picture c.args.run.now c.in_ok-drawing.drawing c.in_ok-text.text c.in_ok-drawing.ensures c.in_ok-text.ensures,
)
