use Rattle.std.proofs.Common.{arith}
use Rattle.shared_composite.proofs.CoreLaws.{underway, new_core, made}
use Rattle.shared_composite.proofs.cores.Core.new.Goals as goal

pub returns-clause-core : goal.returns-clause-core
returns-clause-core c = λ pool fit.
    new_core pool c.args.seat c.args.parts fit (omega (arith, c.parts.ensures.count, c.parts.ensures.bound))
    c.requires.turns

pub returns-clause-underway : goal.returns-clause-underway
returns-clause-underway c = λ pool fit.
    underway pool (made c.args.seat c.args.parts)
    (new_core pool c.args.seat c.args.parts fit (omega (arith, c.parts.ensures.count, c.parts.ensures.bound))
    c.requires.turns)
