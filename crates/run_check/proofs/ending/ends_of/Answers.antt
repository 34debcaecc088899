use Rattle.std.proofs.Common.{◌≡◌, ℕ, suc, ◌+◌, List, ◌++◌, sym, ap, arith, ◌∙◌}
use Rattle.size_classes.specs.Sizes.{below}
use Rattle.pool_law.specs.declared.report.ChunkEnd.{ChunkEnd}
use Rattle.pool_law.specs.Legal.{arena_ends, ends_from}
use Rattle.pool_law.proofs.LogLemmas.{ends-push}
use Rattle.run_check.proofs.ending.ends_of.Goals as goal

pub loop-number-preserved : goal.loop-number-preserved
loop-number-preserved c logs are =
    let shape = c.args.shape.now in
    let n = c.loop-number.number in
    let next : suc n ≡ n + 1 = omega arith in
    c.in_ok-push_arena.ensures logs are
    ∙ ap (λ (xs : List ChunkEnd). xs ++ arena_ends shape logs n) (c.loop-number.invariant logs are)
    ∙ sym (ends-push shape logs (below n) n)
    ∙ ap (λ (k : ℕ). ends_from shape logs (below k)) next
