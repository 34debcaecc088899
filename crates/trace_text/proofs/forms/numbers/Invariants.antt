use Rattle.std.proofs.Common.{◌≡◌, ◌+◌, ◌≤◌, map, drop, length}
use Rattle.serde_json.specs.View.{view}
use Rattle.trace_text.specs.Forms.{numbers_in}
use Rattle.trace_text.proofs.NumberSteps.{behind}
use Rattle.trace_text.proofs.forms.numbers.Given as goal

abbrev pub invariant-loop-item : goal.invariant-loop-item
invariant-loop-item l = record {
  read : numbers_in l.fn.names (map view l.items)
      ≡ behind l.numbers.items (numbers_in l.names (drop l.item-index (map view l.items)));
  few : length l.names ≤ length l.fn.names + l.item-index;
}
