use Rattle.std.proofs.Common.{◌++◌, codes, decimal}
use Rattle.std.proofs.lemmas.Result.{on_ok_weaker}
use Rattle.run_picture.proofs.TextLemmas.{named-part, two-parts}
use Rattle.run_picture.proofs.writer.Writer.given.Goals as goal

pub returns : goal.returns
returns c =
    on_ok_weaker c.named-2.result
    (λ last. two-parts _ _ _ (codes "; given back by note " ++ decimal c.args.back.number)
    (codes " by lane " ++ decimal c.args.back.lane)
    (named-part _ _ (codes "; given back by note ") (decimal c.args.back.number) c.in_ok-named.ensures)
    (named-part _ _ (codes " by lane ") (decimal c.args.back.lane) last))
    c.named-2.ensures
