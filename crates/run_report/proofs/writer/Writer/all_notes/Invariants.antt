use Rattle.std.proofs.Common.{◌≡◌, ◌++◌, drop}
use Rattle.pool_law.specs.Text.{all_notes}
use Rattle.run_report.proofs.writer.Writer.all_notes.Given as goal

abbrev pub invariant-loop-lane : goal.invariant-loop-lane
invariant-loop-lane l =
    l.initial.self ++ all_notes 0 l.logs ≡ l.self ++ all_notes l.lane (drop l.lane l.logs)
