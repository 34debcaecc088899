use Rattle.std.proofs.Common.{◌≡◌, ◌+◌, ◌*◌, ◌≤◌, take}
use Rattle.lane_core.specs.Lanes.{left_for_each}
use Rattle.lane_core.proofs.room.note_bound.Given as goal

abbrev pub invariant-loop-command : goal.invariant-loop-command
invariant-loop-command l =
    record {
      bound : l.bound ≡ 40 + (left_for_each l.composites (take l.command-index l.commands)).notes;
      most : l.bound ≤ 40 + 197 * l.command-index;
      asks : l.asks ≡ (left_for_each l.composites (take l.command-index l.commands)).asks;
      few : l.asks ≤ l.command-index;
    }
