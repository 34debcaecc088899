use Rattle.std.proofs.Common.{ℕ, ◌<◌, ◌≤◌, ap, ◌∙◌, arith, List, length, set}
use Rattle.std.proofs.lemmas.List.Edits.{fill_more}
use Rattle.shared_pool.proofs.root_place.zero.Goals as goal

pub loop-i-preserved : goal.loop-i-preserved
loop-i-preserved c =
    let i : ℕ = c.loop-i.i in let d : List ℕ = c.args.bytes.now in let m : ℕ = c.args.count in
    let lt : i < m = c.loop-i-test.true in let le : m ≤ length d = c.requires in
    ap (λ (xs : List ℕ). set xs i 0) c.loop-i.invariant ∙ fill_more i 0 d (omega (arith, lt, le))
