-- Budgets of which all threads together would have too much.
use Rattle.std.proofs.Common.{◌≡◌, ℕ, zero, ◌+◌, ◌*◌, ◌/◌, ◌<◌, ◌≤◌, arith}
use Rattle.std.proofs.Math.Nat.{div-lt_iff_lt-mul, mul_comm}

pub too_much : (most lanes n k : ℕ) → 1 ≤ lanes → most / lanes < n → most + 1 ≡ k → lanes * n < k → ⊥
too_much most lanes n k some more is less =
    let pos : zero < lanes = omega (arith, some) in
    let a = (div-lt_iff_lt-mul {k = lanes} {x = most} {y = n} pos).0 more in let b = mul_comm n lanes in
    omega (arith, a, b, less, is)
