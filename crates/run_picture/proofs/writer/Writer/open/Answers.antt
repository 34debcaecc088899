use Rattle.std.proofs.Common.{◌/◌, codes}
use Rattle.std.proofs.lemmas.Result.{on_ok_weaker}
use Rattle.run_picture.specs.Svg.{attribute, view_text}
use Rattle.run_picture.proofs.TextLemmas.{four-parts}
use Rattle.run_picture.proofs.writer.Writer.open.Goals as goal

pub returns : goal.returns
returns c =
    on_ok_weaker c.view_box.result
    (four-parts _ _ _ _ _ (codes "<svg xmlns='http://www.w3.org/2000/svg'")
    (attribute (codes "width") (c.args.width / 10))
    (attribute (codes "height") (c.args.height / 10)) (view_text c.args.width c.args.height)
    c.in_ok-words.ensures c.in_ok-attribute.ensures c.in_ok-attribute-2.ensures)
    c.view_box.ensures
