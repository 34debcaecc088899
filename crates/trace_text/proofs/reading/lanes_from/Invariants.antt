use Rattle.std.proofs.Common.{◌≡◌, map, drop, length, []}
use Rattle.serde_json.specs.View.{view}
use Rattle.trace_text.specs.Reading.{lanes_after}
use Rattle.trace_text.proofs.reading.lanes_from.Given as goal

abbrev pub invariant-loop-value : goal.invariant-loop-value
invariant-loop-value l = record {
  read : lanes_after (length l.values) [] (map view l.values)
      ≡ lanes_after (length l.values) l.lanes.items (drop l.value-index (map view l.values));
  count : length l.lanes.items ≡ l.value-index;
}
