use Rattle.std.proofs.Common.{◌+◌, ◌*◌, ◌<◌, ◌≤◌, ℕ, sym, ap, ◌∙◌, subst, arith}
use Rattle.pool_table.proofs.Slots.{slot_single, slot_packed}
use Rattle.pool_table.proofs.index.slot_index.Goals as goal

pub returns-then-number-single : goal.returns-then-number-single
returns-then-number-single c =
    sym (slot_single c.args.shape.now c.args.number
    (subst (λ (n : ℕ). c.args.number < n) c.single_count-single.ensures c.if-number-single.true))

pub returns-else-number-single : goal.returns-else-number-single
returns-else-number-single c =
    let i : ℕ = c.args.number in let n : ℕ = c.single_count-single.result in let f = c.if-number-single.false in
    let le : n ≤ i = omega (arith, f) in
    ap (λ (m : ℕ). m * 7 + i) c.single_count-single.ensures
    ∙ sym (slot_packed c.args.shape.now i (subst (λ (m : ℕ). m ≤ i) c.single_count-single.ensures le))
