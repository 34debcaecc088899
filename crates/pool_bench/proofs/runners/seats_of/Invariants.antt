use Rattle.std.proofs.Common.{◌≡◌, ◌+◌, ◌++◌, map, vec_len, vec_capacity}
use Rattle.pool_bench.specs.declared.runner.Runner.{Runner}
use Rattle.pool_bench.proofs.runners.seats_of.Given as goal

abbrev pub invariant-loop-taken : goal.invariant-loop-taken
invariant-loop-taken l = record {
  seats : l.seats.items ++ map (λ (q : Runner). q.seat) l.runners.items
      ≡ map (λ (q : Runner). q.seat) l.fn.runners.items;
  left : vec_len l.runners + l._taken ≡ vec_len l.fn.runners;
  taken : vec_len l.seats ≡ l._taken;
  room : vec_capacity l.seats ≡ vec_capacity l.fn.seats;
}
