use Rattle.std.proofs.Common.{◌++◌, codes, decimal}
use Rattle.std.proofs.lemmas.Result.{on_ok_weaker}
use Rattle.run_picture.proofs.TextLemmas.{named-part, two-parts}
use Rattle.run_picture.proofs.writer.Writer.size.Goals as goal

pub returns : goal.returns
returns c =
    on_ok_weaker c.named-2.result
    (λ last. two-parts _ _ _ (codes ", bytes " ++ decimal c.args.region.now.place.len)
    (codes ", class " ++ decimal c.args.region.now.class)
    (named-part _ _ (codes ", bytes ") (decimal c.args.region.now.place.len) c.in_ok-named.ensures)
    (named-part _ _ (codes ", class ") (decimal c.args.region.now.class) last))
    c.named-2.ensures
