use Rattle.std.proofs.Common.{◌≡◌, ◌++◌, drop}
use Rattle.pool_law.specs.Text.{all_replies}
use Rattle.run_report.proofs.writer.Writer.all_replies.Given as goal

abbrev pub invariant-loop-lane : goal.invariant-loop-lane
invariant-loop-lane l =
    l.initial.self ++ all_replies 0 l.lanes l.logs
    ≡ l.self ++ all_replies l.lane (drop l.lane l.lanes) (drop l.lane l.logs)
