use Rattle.std.proofs.Common.{◌≡◌, ◌++◌, drop}
use Rattle.pool_law.specs.Text.{leak_lines}
use Rattle.run_report.proofs.writer.Writer.leak_lines.Given as goal

abbrev pub invariant-loop-leak : goal.invariant-loop-leak
invariant-loop-leak l =
    l.initial.self ++ leak_lines l.leaks ≡ l.self ++ leak_lines (drop l.leak-index l.leaks)
