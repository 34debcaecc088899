use Rattle.std.proofs.Common.{◌^◌, ◌≤◌, lit<, arith}
use Rattle.std.proofs.Math.Nat.{mul-le-mul_left, mul-le-mul_right, pow-le-pow_right}
use Rattle.pool_law.proofs.limits.chunk_bytes.Goals as goal

pub returns-clause-within : goal.returns-clause-within
returns-clause-within c =
    let page = c.args.shape.now.page in let order = c.args.shape.now.order in
    let power : 2 ^ order ≤ 2 ^ 11 = pow-le-pow_right {n = 2} (lit< tt) {i = order} {j = 11} c.requires.order in
    let first = mul-le-mul_right {m = page} {n = 2 ^ 15} (2 ^ order) c.requires.page in
    let second = mul-le-mul_left {m = 2 ^ order} {n = 2 ^ 11} (2 ^ 15) power in
    rw (c.from.ensures, c.pow.ensures) (omega (arith, first, second))
