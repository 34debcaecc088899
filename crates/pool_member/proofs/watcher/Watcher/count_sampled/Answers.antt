use Rattle.std.proofs.Common.{◌≡◌, ◌+◌, true, sym, ◌∙◌, arith}
use Rattle.pool_law.specs.Leaks.{is_sampled}
use Rattle.pool_member.proofs.Skips.{skips_behind}
use Rattle.pool_member.proofs.watcher.Watcher.count_sampled.Goals as goal

pub invariant_of-self-then-samples-2 : goal.invariant_of-self-then-samples-2
invariant_of-self-then-samples-2 c =
    let w = c.self.inside in
    let sampled : is_sampled w.level w.interval (w.births + 1) ≡ true = sym c.samples.ensures ∙ c.if-samples.true in (
      c.self.invariant.0,
      skips_behind w.level w.interval (w.births + 1) c.gap.result c.saturating_add-self-inside.result
          (omega arith) sampled c.gap.ensures.less c.gap.ensures.none (omega arith),
    )
