use Rattle.std.proofs.Common.{◌++◌, codes, decimal}
use Rattle.std.proofs.lemmas.Result.{on_ok_weaker}
use Rattle.run_picture.proofs.TextLemmas.{named-part, three-parts}
use Rattle.run_picture.proofs.writer.Writer.place.Goals as goal

pub returns : goal.returns
returns c =
    let p = c.args.place.now in
    on_ok_weaker c.named-2.result
    (λ last. three-parts _ _ _ _ (decimal p.arena) (codes "." ++ decimal p.chunk) (codes "+" ++ decimal p.offset)
    c.in_ok-number.ensures
    (named-part _ _ (codes ".") (decimal p.chunk) c.in_ok-named.ensures)
    (named-part _ _ (codes "+") (decimal p.offset) last))
    c.named-2.ensures
