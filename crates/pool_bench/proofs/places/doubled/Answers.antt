use Rattle.std.proofs.Common.{arith}
use Rattle.std.proofs.Math.Nat.{pow-le-pow_right}
use Rattle.std.proofs.lemmas.Nat.{pow_pos, shl_whole}
use Rattle.pool_bench.proofs.places.doubled.Goals as goal

pub returns-clause-least : goal.returns-clause-least
returns-clause-least c =
    let times = c.args.times in
    omega (arith, pow_pos times, shl_whole 16 5 times 32 (omega arith) (omega arith))

pub returns-clause-most : goal.returns-clause-most
returns-clause-most c =
    let times = c.args.times in
    let whole = shl_whole 16 5 times 32 (omega arith) (omega arith) in
    omega (arith, whole, pow-le-pow_right {n = 2} (omega arith) {i = times} {j = 18} (omega arith))
