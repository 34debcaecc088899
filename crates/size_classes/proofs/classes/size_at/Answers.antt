use Rattle.std.proofs.Common.{Fits-le, Fits-lit, arith}
use Rattle.size_classes.proofs.Powers.{size_fits, product_fits}
use Rattle.size_classes.proofs.classes.size_at.Goals as goal

pub overflow_mul-result-2 : goal.overflow_mul-result-2
overflow_mul-result-2 c =
    rw c.pow-2.ensures (Fits-le (product_fits _ c.args.class (omega arith) c.requires) (Fits-lit tt))

pub overflow_add-result-3 : goal.overflow_add-result-3
overflow_add-result-3 c =
    rw (c.pow.ensures, c.pow-2.ensures) (Fits-le (size_fits _ c.args.class (omega arith) c.requires) (Fits-lit tt))
