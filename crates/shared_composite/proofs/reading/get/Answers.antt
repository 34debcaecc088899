use Rattle.std.proofs.Common.{arith}
use Rattle.shared_composite.proofs.Gets.{got_part}
use Rattle.shared_composite.proofs.reading.get.Goals as goal

pub returns-in-Did-clause-got : goal.returns-in-Did-clause-got
returns-in-Did-clause-got c =
    let out = c.read.new.out in
    got_part c.args.pool.now c.args.seat.now c.read.new.seat c.args.part c.in-Did._number out
    (λ e. absurd (omega (arith, e))) (omega (arith, c.read.ensures.len, c.requires.range)) c.in-Did.ensures.did
