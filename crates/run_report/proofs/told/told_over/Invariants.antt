use Rattle.std.proofs.Common.{◌≡◌, ◌*◌, ◌^◌, ◌≤◌, take}
use Rattle.std.specs.List.{sum_by}
use Rattle.run_report.specs.ReplyTotals.{refusals_by, read_by, total_by}
use Rattle.run_report.proofs.told.told_over.Given as goal

abbrev pub invariant-loop-log : goal.invariant-loop-log
invariant-loop-log l = record {
  refused : l.refused ≡ sum_by refusals_by (take l.log-index l.logs);
  read : l.read ≡ sum_by read_by (take l.log-index l.logs);
  total : l.total ≡ sum_by total_by (take l.log-index l.logs);
  refused_most : l.refused ≤ 2 ^ 16 * l.log-index;
  read_most : l.read ≤ 2 ^ 80 * l.log-index;
  total_most : l.total ≤ 2 ^ 88 * l.log-index;
}
