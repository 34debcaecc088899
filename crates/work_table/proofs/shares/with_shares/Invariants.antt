use Rattle.std.proofs.Common.{◌≡◌, ◌≤◌, ◌+◌, vec_len, vec_capacity}
use Rattle.work_table.proofs.shares.with_shares.Given as goal

abbrev pub invariant-loop-i : goal.invariant-loop-i
invariant-loop-i g l = record {
  parts : l.all.parts + l._i ≡ l.count + 1;
  amount : l.all.amount ≡ 0;
  count : vec_len l.workers ≡ l._i;
  room : l.count ≤ vec_capacity l.workers;
}
