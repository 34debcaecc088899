use Rattle.std.proofs.Common.{◌≡◌, ◌≤◌, ◌+◌, ◌++◌}
use Rattle.std.specs.Prelude.{None, vec_len, vec_capacity, replicate}
use Rattle.pool_table.proofs.making.leave_empty.Given as goal

abbrev pub invariant-loop-made : goal.invariant-loop-made
invariant-loop-made g l = record {
  same : l.home ≡ l.fn.home;
  items : l.slots.items ≡ l.fn.slots.items ++ replicate l._made None;
  many : vec_len l.slots ≡ vec_len l.fn.slots + l._made;
  room : vec_len l.fn.slots + l.count ≤ vec_capacity l.slots;
  kept : vec_capacity l.fn.slots ≤ vec_capacity l.slots;
}
