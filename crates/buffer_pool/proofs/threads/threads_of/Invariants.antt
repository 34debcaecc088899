use Rattle.std.proofs.Common.{◌≡◌, ◌+◌, ◌++◌, ◌≤◌, vec_len, vec_capacity}
use Rattle.std.specs.Prelude.{All}
use Rattle.pool_member.specs.Threads.{IsThread}
use Rattle.buffer_pool.proofs.threads.threads_of.Given as goal

abbrev pub invariant-loop-made : goal.invariant-loop-made
invariant-loop-made g l = record {
  same : l.threads.items ++ l.members.items ≡ l.fn.members.items;
  left : vec_len l.members + l._made ≡ vec_len l.fn.members;
  made : vec_len l.threads ≡ l._made;
  room : vec_len l.fn.members ≤ vec_capacity l.threads;
  members : All (IsThread l.pool) l.members.items;
}
