use Rattle.std.proofs.Common.{◌≡◌, ◌+◌, ◌≤◌, ◌++◌, length}
use Rattle.std.specs.Prelude.{map, vec_capacity}
use Rattle.lane_core.proofs.played.abandon_all.Given as goal

abbrev pub invariant-loop : goal.invariant-loop
invariant-loop l =
    record {
      many : length l.lanes.items + l.counter ≡ l.count;
      seat_room : length l.seats.items + length l.lanes.items ≤ vec_capacity l.seats;
      seats : l.seats.items ++ map (λ k. k.context.seat) l.lanes.items ≡ map (λ k. k.context.seat) l.fn.lanes.items;
    }
