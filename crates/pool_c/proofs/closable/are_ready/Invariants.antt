use Rattle.std.proofs.Common.{ℕ, ◌<◌, get_or}
use Rattle.pool_c.specs.declared.handle.PoolThread.{PoolThread}
use Rattle.pool_c.specs.Closing.{IsReady}
use Rattle.pool_c.proofs.closable.are_ready.Given as goal

abbrev pub invariant-loop-thread : goal.invariant-loop-thread
invariant-loop-thread l = (k : ℕ) (d : PoolThread) → k < l.thread-index → IsReady (get_or l.threads k d)
