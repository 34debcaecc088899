use Rattle.std.proofs.Common.{arith, lit<}
use Rattle.std.proofs.Math.Nat.{pow-le-pow_right, one-le-pow}
use Rattle.object_steps.proofs.sizes.Sizes.chunk_pages.Goals as goal

pub pow-requires : goal.pow-requires
pow-requires c =
    let within = pow-le-pow_right {n = 2} (lit< tt) {i = c.self.inside.order} {j = 11} c.self.invariant.geometry.most in
    omega (arith, within)

pub returns-clause-within : goal.returns-clause-within
returns-clause-within c =
    let within = pow-le-pow_right {n = 2} (lit< tt) {i = c.self.inside.order} {j = 11} c.self.invariant.geometry.most in
    rw c.pow.ensures (omega (arith, one-le-pow c.self.inside.order 2 (lit< tt)), within)
