use Rattle.std.proofs.Common.{◌<◌, ◌≤◌, ℕ, sym, subst, arith}
use Rattle.pool_table.specs.Words.{single_of}
use Rattle.pool_table.proofs.Slots.{gap_single, gap_packed}
use Rattle.pool_table.proofs.index.gap_count.Goals as goal

pub returns-then-number-single_count : goal.returns-then-number-single_count
returns-then-number-single_count c =
    sym (gap_single c.args.shape.now c.args.number
    (subst (λ (n : ℕ). c.args.number < n) c.single_count.ensures c.if-number-single_count.true))

pub returns-else-number-single_count : goal.returns-else-number-single_count
returns-else-number-single_count c =
    let a : ℕ = single_of c.args.shape.now in let n : ℕ = c.single_count.result in let e = c.single_count.ensures in
    let f = c.if-number-single_count.false in
    let le : n ≤ c.args.number = omega (arith, f) in
    sym (gap_packed c.args.shape.now c.args.number (subst (λ (m : ℕ). m ≤ c.args.number) e le))
