use Rattle.std.proofs.Common.{◌≡◌, ℕ, ◌<◌, ◌≤◌, get_or, length, None}
use Rattle.pool_c.specs.declared.handle.PoolThread.{PoolThread}
use Rattle.pool_c.specs.Handles.{HasNothing}
use Rattle.pool_c.proofs.closing.empty_all.Given as goal

abbrev pub invariant-loop-thread : goal.invariant-loop-thread
invariant-loop-thread l = record {
  empty : (k : ℕ) (d : PoolThread) → k < l.thread-index → HasNothing (get_or l.thread-items k d);
  taken : (k : ℕ) (d : PoolThread) → l.thread-index ≤ k → k < length l.thread-items →
      (get_or l.thread-items k d).slot.held ≡ None;
}
