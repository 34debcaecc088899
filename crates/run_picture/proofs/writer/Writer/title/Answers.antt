use Rattle.std.proofs.Common.{codes}
use Rattle.std.proofs.lemmas.Result.{on_ok_weaker}
use Rattle.run_picture.specs.Svg.{escaped}
use Rattle.run_picture.proofs.TextLemmas.{three-parts}
use Rattle.run_picture.proofs.writer.Writer.title.Goals as goal

pub returns : goal.returns
returns c =
    on_ok_weaker c.words-2.result
    (three-parts _ _ _ _ (codes "><title>") (escaped c.args.title.now) (codes "</title></rect>\n")
    c.in_ok-words.ensures c.in_ok-escaped.ensures)
    c.words-2.ensures
