use Rattle.std.proofs.Common.{◌≡◌, ℕ, ◌≤◌, ◌+◌, Bool, drop, vec_len, vec_capacity}
use Rattle.trace_top.specs.Standing.{AllRun}
use Rattle.trace_top.proofs.lanes.all_lanes.Given as goal

abbrev pub invariant-loop-i : goal.invariant-loop-i
invariant-loop-i l = record {
  trace : l.trace.items ≡ drop l._i l.fn.trace.items;
  trace_len : vec_len l.trace + l._i ≡ vec_len l.fn.trace;
  seats : l.seats.items ≡ drop l._i l.fn.seats.items;
  seats_len : vec_len l.seats + l._i ≡ vec_len l.fn.trace;
  seats_room : vec_capacity l.seats ≡ vec_capacity l.fn.seats;
  lanes_len : vec_len l.lanes ≡ l._i;
  lanes_room : vec_len l.fn.trace ≤ vec_capacity l.lanes;
  made : (stops : ℕ → ℕ → Bool) → AllRun l.fn.trace.items stops l.pool l.lanes.items;
}
