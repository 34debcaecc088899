use Rattle.std.proofs.Common.{◌≡◌, ◌≤◌, ◌++◌, length, take, drop}
use Rattle.run_check.specs.Reporting.{all_leaks}
use Rattle.run_check.proofs.leaks.first_misreported.Given as goal

abbrev pub invariant-loop-lane : goal.invariant-loop-lane
invariant-loop-lane l = record {
  expected : all_leaks l.report.shape.now l.report.histories.now l.report.tallies.now 0 l.logs
      ≡ take l.at l.report.leaks.now
      ++ all_leaks l.report.shape.now l.report.histories.now l.report.tallies.now l.lane (drop l.lane l.logs);
  inside : l.at ≤ length l.report.leaks.now;
}
