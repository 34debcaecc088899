use Rattle.std.proofs.Common.{◌≡◌, ◌++◌, drop, length}
use Rattle.pool_law.specs.Stuck.{moved}
use Rattle.trace_text.proofs.stuck.HandOvers.next_lines.Given as goal

abbrev pub invariant-loop-lane : goal.invariant-loop-lane
invariant-loop-lane l = record {
  size : length l.next.items ≡ l.lane;
  rest : moved l.self.lanes.now l.at 0 l.at ≡ l.next.items ++ moved l.self.lanes.now l.at l.lane (drop l.lane l.at);
}
