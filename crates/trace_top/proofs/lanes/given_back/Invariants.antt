use Rattle.std.proofs.Common.{◌≡◌, ◌+◌, vec_len, vec_capacity}
use Rattle.trace_top.specs.Standing.{AllOf, AreLanes}
use Rattle.trace_top.proofs.lanes.given_back.Given as goal

abbrev pub invariant-loop-lane : goal.invariant-loop-lane
invariant-loop-lane l = record {
  count : vec_len l.lanes + vec_len l.seats ≡ vec_len l.initial.lanes + vec_len l.initial.seats;
  room : vec_capacity l.seats ≡ vec_capacity l.initial.seats;
  lanes : AreLanes l.pool l.lanes.items;
  seats : AllOf l.pool l.seats.items;
}

abbrev pub decreases-loop-lane : goal.decreases-loop-lane
decreases-loop-lane l = goal.left-loop-lane l
