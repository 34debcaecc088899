use Rattle.std.proofs.Common.{◌≡◌, ◌+◌, ◌≤◌, ℕ, length, take, slice_index}
use Rattle.pool_law.specs.Stuck.{how_many}
use Rattle.trace_text.specs.Counts.{meets}
use Rattle.trace_text.proofs.counts.counts.Given as goal

abbrev pub invariant-loop-command : goal.invariant-loop-command
invariant-loop-command l = record {
  size : length l.list.items ≡ l.command-index + 1;
  bound : l.total ≤ l.command-index;
  now : l.total ≡ how_many (meets l.side l.lane) (take l.command-index l.commands);
  each : (k : ℕ) → k ≤ l.command-index → slice_index l.list.items k
      ≡ how_many (meets l.side l.lane) (take k l.commands);
}
