use Rattle.std.proofs.Common.{ap, ◌∙◌, ◌<◌, ◌+◌, ◌≤◌, ℕ, arith, List, length, set}
use Rattle.std.proofs.lemmas.List.Edits.{fill_from_more}
use Rattle.shared_pool.proofs.root_growth.zero_behind.Goals as goal

pub loop-i-preserved : goal.loop-i-preserved
loop-i-preserved c =
    let i : ℕ = c.loop-i.i in let d : List ℕ = c.args.bytes.now in let at : ℕ = c.args.from in let m : ℕ = c.args.count
    in
    let lt : i < m = c.loop-i-test.true in let le : at + m ≤ length d = c.requires in
    ap (λ (xs : List ℕ). set xs (at + i) 0) c.loop-i.invariant ∙ fill_from_more d at i 0 (omega (arith, lt, le))
