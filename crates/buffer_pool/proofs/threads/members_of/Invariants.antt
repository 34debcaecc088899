use Rattle.std.proofs.Common.{◌≡◌, ◌+◌, ◌++◌, ◌≤◌, vec_len, vec_capacity}
use Rattle.std.specs.Prelude.{All}
use Rattle.pool_member.specs.Threads.{IsThread}
use Rattle.buffer_pool.proofs.threads.members_of.Given as goal

abbrev pub invariant-loop-made : goal.invariant-loop-made
invariant-loop-made g l = record {
  same : l.members.items ++ l.threads.items ≡ l.fn.threads.items;
  left : vec_len l.threads + l._made ≡ vec_len l.fn.threads;
  made : vec_len l.members ≡ l._made;
  room : vec_len l.fn.threads ≤ vec_capacity l.members;
  back : vec_len l.fn.threads ≤ vec_capacity l.threads;
  members : All (IsThread l.pool) l.members.items;
}
