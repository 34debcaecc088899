use Rattle.std.proofs.Common.{◌≡◌, ◌+◌, ◌++◌, length, map, take, Some, vec_len}
use Rattle.std.specs.Prelude.{All, box_value}
use Rattle.pool_c.specs.declared.handle.PoolThread.{PoolThread}
use Rattle.pool_c.proofs.opening.place.Given as goal

abbrev pub invariant-loop-thread : goal.invariant-loop-thread
invariant-loop-thread l = record {
  left : vec_len l.all + l.thread-index ≡ length l.thread-items;
  ready : All (λ (t : PoolThread). t.state ≡ 1) (take l.thread-index l.thread-items);
  held : map (λ (t : PoolThread). t.slot.held) (take l.thread-index l.thread-items) ++ map Some (map box_value
      l.all.items)
      ≡ map Some (map box_value l.fn.all.items);
}
