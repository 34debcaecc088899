use Rattle.std.proofs.Common.{◌+◌, arith}
use Rattle.object_steps.proofs.SizeLemmas.{base-fits, doubling-fits}
use Rattle.object_steps.proofs.sizes.size_of.Goals as goal

pub returns-clause-within : goal.returns-clause-within
returns-clause-within c =
    rw (c.pow.ensures, c.pow-2.ensures)
    (omega (
      arith,
      base-fits c.args.class c.requires,
      doubling-fits (c.from-step.result + 1) c.args.class (omega arith)
          c.requires,
    ))
