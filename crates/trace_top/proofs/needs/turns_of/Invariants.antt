use Rattle.std.proofs.Common.{◌≡◌, ◌*◌, ◌≤◌, map, take}
use Rattle.std.specs.Prelude.{sum}
use Rattle.pool_law.specs.Bounds.{may_ask, most_notes}
use Rattle.trace_top.proofs.needs.turns_of.Given as goal

abbrev pub invariant-loop-command : goal.invariant-loop-command
invariant-loop-command l = record {
  notes : l.notes ≡ sum (map (most_notes l.composites) (take l.command-index l.commands));
  few_notes : l.notes ≤ 197 * l.command-index;
  asks : l.asks ≡ sum (map may_ask (take l.command-index l.commands));
  few_asks : l.asks ≤ l.command-index;
}
