use Rattle.std.proofs.Common.{◌≡◌, ◌≤◌, length, true}
use Rattle.std.specs.List.{list_all}
use Rattle.lane_cases.specs.Plain.{is_plain}
use Rattle.lane_cases.proofs.sweeps.filled.commands.Given as goal

abbrev pub invariant-loop-line : goal.invariant-loop-line
invariant-loop-line l = record {
  many : length l.commands.items ≡ l.line;
  within : l.line ≤ 8450;
  plain : list_all is_plain l.commands.items ≡ true;
}
