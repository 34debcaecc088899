use Rattle.std.proofs.Common.{◌≡◌, ◌++◌, drop}
use Rattle.pool_law.specs.Text.{access_lines}
use Rattle.run_report.proofs.writer.Writer.access_lines.Given as goal

abbrev pub invariant-loop-access : goal.invariant-loop-access
invariant-loop-access l =
    l.initial.self ++ access_lines l.records ≡ l.self ++ access_lines (drop l.access-index l.records)
