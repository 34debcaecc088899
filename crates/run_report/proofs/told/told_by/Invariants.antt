use Rattle.std.proofs.Common.{◌≡◌, ◌*◌, ◌^◌, ◌≤◌, take}
use Rattle.std.specs.List.{sum_by}
use Rattle.run_report.specs.ReplyTotals.{refusals_in, read_in, total_in}
use Rattle.run_report.proofs.told.told_by.Given as goal

abbrev pub invariant-loop-answered : goal.invariant-loop-answered
invariant-loop-answered l = record {
  refused : l.refused ≡ sum_by refusals_in (take l.answered-index l.answers);
  read : l.read ≡ sum_by read_in (take l.answered-index l.answers);
  total : l.total ≡ sum_by total_in (take l.answered-index l.answers);
  refused_most : l.refused ≤ l.answered-index;
  read_most : l.read ≤ 2 ^ 64 * l.answered-index;
  total_most : l.total ≤ 2 ^ 72 * l.answered-index;
}
