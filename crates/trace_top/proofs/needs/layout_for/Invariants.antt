use Rattle.std.proofs.Common.{◌≤◌, ◌<◌, ◌^◌, ℕ}
use Rattle.pool_law.specs.Bounds.{note_bound}
use Rattle.pool_law.specs.Logs.{of_lane}
use Rattle.lane_core.specs.Lanes.{left_for_all}
use Rattle.trace_top.proofs.needs.layout_for.Given as goal

abbrev pub invariant-loop-commands : goal.invariant-loop-commands
invariant-loop-commands l = record {
  moves : (k : ℕ) → k < l.commands-index → (left_for_all (of_lane l.lanes k)).moves ≤ l.moves;
  turns : (k : ℕ) → k < l.commands-index → note_bound (of_lane l.lanes k) ≤ l.turns;
  most_moves : l.moves ≤ 65536;
  most_turns : l.turns ≤ 2 ^ 24;
}
