use Rattle.std.proofs.Common.{◌≡◌, ◌+◌, ◌++◌, ◌≤◌, map, vec_len, vec_capacity}
use Rattle.pool_bench.specs.declared.runner.Runner.{Runner}
use Rattle.pool_bench.proofs.runners.runners_of.Given as goal

abbrev pub invariant-loop-made : goal.invariant-loop-made
invariant-loop-made l = record {
  seats : map (λ (q : Runner). q.seat) l.runners.items ++ l.seats.items ≡ l.fn.seats.items;
  seats_left : vec_len l.seats + l._made ≡ l.count;
  seats_room : l.count ≤ vec_capacity l.seats;
  memory_left : vec_len l.memory + l._made ≡ l.count;
  made : vec_len l.runners ≡ l._made;
  room : l.count ≤ vec_capacity l.runners;
}
