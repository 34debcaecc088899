use Rattle.std.proofs.Common.{◌≡◌, ℕ, ◌<◌, ◌≤◌, get_or, length, map, take, None, Some, vec_capacity, vec_len}
use Rattle.std.specs.Prelude.{box_value}
use Rattle.pool_c.specs.declared.handle.PoolThread.{PoolThread}
use Rattle.pool_c.proofs.closing.take_all.Given as goal

abbrev pub invariant-loop-thread : goal.invariant-loop-thread
invariant-loop-thread l = record {
  made : vec_len l.all ≡ l.thread-index;
  room : length l.thread-items ≤ vec_capacity l.all;
  many : length l.thread-items ≡ length l.fn.threads;
  taken : (k : ℕ) (d : PoolThread) → k < l.thread-index → (get_or l.thread-items k d).slot.held ≡ None;
  rest : (k : ℕ) (d : PoolThread) → l.thread-index ≤ k → get_or l.thread-items k d ≡ get_or l.fn.threads k d;
  held : map Some (map box_value l.all.items)
      ≡ map (λ (t : PoolThread). t.slot.held) (take l.thread-index l.fn.threads);
}
