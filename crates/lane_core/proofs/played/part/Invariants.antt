use Rattle.std.proofs.Common.{◌≡◌, ◌+◌, ◌≤◌, ◌++◌, length}
use Rattle.std.specs.Prelude.{All, map, vec_capacity}
use Rattle.lane_core.specs.Lanes.{IsFinished}
use Rattle.lane_core.specs.Played.{HasRoom, log_written}
use Rattle.lane_core.proofs.played.part.Given as goal

abbrev pub invariant-loop : goal.invariant-loop
invariant-loop l =
    record {
      many : length l.lanes.items + l.counter ≡ l.count;
      finished : All IsFinished l.lanes.items;
      room : HasRoom (length l.lanes.items) l.parted;
      seat_room : length l.seats.items + length l.lanes.items ≤ vec_capacity l.seats;
      commands : l.parted.commands.items ++ map (λ k. k.commands) l.lanes.items
          ≡ l.fn.parted.commands.items ++ map (λ k. k.commands) l.fn.lanes.items;
      logs : l.parted.logs.items ++ map log_written l.lanes.items
          ≡ l.fn.parted.logs.items ++ map log_written l.fn.lanes.items;
      seats : l.seats.items ++ map (λ k. k.context.seat) l.lanes.items ≡ map (λ k. k.context.seat) l.fn.lanes.items;
    }
