use Rattle.std.proofs.Common.{◌++◌, ◌∙◌, codes, decimal}
use Rattle.std.proofs.lemmas.List.{append_assoc}
use Rattle.std.proofs.lemmas.Result.{on_ok_weaker}
use Rattle.run_picture.proofs.TextLemmas.{three-parts}
use Rattle.run_picture.proofs.writer.Writer.view_box.Goals as goal

pub returns : goal.returns
returns c =
    on_ok_weaker c.words.result
    (three-parts _ _ _ _ (codes " viewBox='0 0 " ++ decimal c.args.width)
    (codes " " ++ decimal c.args.height) (codes "'>\n")
    (c.in_ok-named.ensures ∙ append_assoc c.args.self.now (codes " viewBox='0 0 ") (decimal c.args.width))
    (c.in_ok-named-2.ensures ∙ append_assoc c.named.new.self (codes " ") (decimal c.args.height)))
    c.words.ensures
