use Rattle.std.proofs.Common.{◌≡◌, ◌+◌, ◌≤◌, ◌++◌, length, take, drop}
use Rattle.run_check.specs.Reporting.{leaks_in}
use Rattle.run_check.proofs.leaks.lane_leaks.Given as goal

abbrev pub invariant-loop-note : goal.invariant-loop-note
invariant-loop-note l = record {
  expected : take l.from l.report.leaks.now
      ++ leaks_in l.report.shape.now l.report.histories.now l.report.tallies.now l.lane 1 l.notes
      ≡ take l.at l.report.leaks.now
      ++ leaks_in l.report.shape.now l.report.histories.now l.report.tallies.now l.lane (l.before + 1)
      (drop l.note-index l.notes);
  inside : l.at ≤ length l.report.leaks.now;
  few : l.before ≤ l.note-index;
}
