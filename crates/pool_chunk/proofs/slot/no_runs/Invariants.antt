use Rattle.std.proofs.Common.{◌≡◌, ◌≤◌, replicate}
use Rattle.pool_chunk.specs.declared.slot.PageUse.{PageUse}
use Rattle.pool_chunk.proofs.slot.no_runs.Given as goal

abbrev pub invariant-loop : goal.invariant-loop
invariant-loop l = (l.slots.items ≡ replicate l.counter PageUse.Nothing) × (l.pages ≤ l.slots.cap)
