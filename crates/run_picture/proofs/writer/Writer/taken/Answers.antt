use Rattle.std.proofs.Common.{◌++◌, codes, decimal}
use Rattle.std.proofs.lemmas.Result.{on_ok_weaker}
use Rattle.run_picture.proofs.TextLemmas.{named-part, two-parts}
use Rattle.run_picture.proofs.writer.Writer.taken.Goals as goal

pub returns : goal.returns
returns c =
    on_ok_weaker c.named-2.result
    (λ last. two-parts _ _ _ (codes "; taken by note " ++ decimal c.args.block.now.number)
    (codes " by lane " ++ decimal c.args.block.now.lane)
    (named-part _ _ (codes "; taken by note ") (decimal c.args.block.now.number) c.in_ok-named.ensures)
    (named-part _ _ (codes " by lane ") (decimal c.args.block.now.lane) last))
    c.named-2.ensures
