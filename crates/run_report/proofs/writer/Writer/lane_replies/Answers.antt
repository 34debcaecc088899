use Rattle.std.proofs.Common.{◌≤◌, ◌++◌, ℕ, List, min, length, ap, sym, ◌∙◌, arith, append-nil}
use Rattle.run_report.proofs.LineLaws.{lines_done}
use Rattle.run_report.proofs.writer.Writer.lane_replies.Goals as goal

pub returns : goal.returns
returns c =
    let past : min (length c.args.commands.now) (length c.args.answers.now) ≤ c.loop-at.at = omega arith in
    sym (c.loop-at.invariant ∙ ap (λ (rest : List ℕ). c.loop-at.self ++ rest) (lines_done _ _ _ _ past) ∙ append-nil _)
