use Rattle.std.proofs.Common.{◌≡◌, ◌++◌, drop}
use Rattle.pool_law.specs.Text.{reply_lines}
use Rattle.run_report.proofs.writer.Writer.lane_replies.Given as goal

abbrev pub invariant-loop-at : goal.invariant-loop-at
invariant-loop-at l =
    l.initial.self ++ reply_lines l.lane 0 l.commands l.answers
    ≡ l.self ++ reply_lines l.lane l.at (drop l.at l.commands) (drop l.at l.answers)
