use Rattle.std.proofs.Common.{◌≡◌, ◌*◌, ◌≤◌, map, drop, length}
use Rattle.serde_json.specs.View.{view}
use Rattle.trace_text.specs.Lane.{commands_after, nothing_read}
use Rattle.trace_text.proofs.lane.commands_of.Given as goal

abbrev pub invariant-loop-row : goal.invariant-loop-row
invariant-loop-row l = record {
  read : commands_after l.lanes l.lane nothing_read (map view l.rows)
      ≡ commands_after l.lanes l.lane l.reader (drop l.row-index (map view l.rows));
  count : length l.reader.commands ≡ l.row-index;
  names : length l.reader.names ≤ 25 * l.row-index;
}
