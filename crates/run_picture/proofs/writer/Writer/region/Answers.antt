use Rattle.std.proofs.Common.{◌++◌, codes, decimal}
use Rattle.std.proofs.lemmas.Result.{on_ok_weaker}
use Rattle.pool_law.specs.Text.{shown_place}
use Rattle.run_picture.proofs.TextLemmas.{named-part, three-parts}
use Rattle.run_picture.proofs.writer.Writer.region.Goals as goal

pub returns : goal.returns
returns c =
    let r = c.args.region.now in
    on_ok_weaker c.place.result
    (three-parts _ _ _ _ (codes "taking " ++ decimal r.taking) (codes " at ") (shown_place r.place)
    (named-part _ _ (codes "taking ") (decimal r.taking) c.in_ok-named.ensures)
    c.in_ok-words.ensures)
    c.place.ensures
