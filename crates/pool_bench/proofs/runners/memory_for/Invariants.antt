use Rattle.std.proofs.Common.{◌≡◌, ◌≤◌, vec_len, vec_capacity}
use Rattle.pool_bench.proofs.runners.memory_for.Given as goal

abbrev pub invariant-loop-made : goal.invariant-loop-made
invariant-loop-made l = (vec_len l.memory ≡ l._made) × (l._made ≤ l.lanes) × (l.lanes ≤ vec_capacity l.memory)
