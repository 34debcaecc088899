use Rattle.std.proofs.Common.{◌≡◌, ◌+◌, vec_len}
use Rattle.work_table.proofs.shares.merged.Given as goal

abbrev pub invariant-loop-worker : goal.invariant-loop-worker
invariant-loop-worker g l = (l.all.parts + vec_len l.workers ≡ vec_len l.fn.workers + 1) × (l.all.amount ≡ 0)

abbrev pub decreases-loop-worker : goal.decreases-loop-worker
decreases-loop-worker g l = goal.left-loop-worker g l
