use Rattle.std.proofs.Common.{◌≤◌, ◌++◌, ℕ, List, min, length, ap, sym, ◌∙◌, arith, append-nil}
use Rattle.run_report.proofs.LineLaws.{lanes_done}
use Rattle.run_report.proofs.writer.Writer.all_replies.Goals as goal

pub returns : goal.returns
returns c =
    let past : min (length c.args.lanes.now) (length c.args.logs.now) ≤ c.loop-lane.lane = omega arith in
    sym (c.loop-lane.invariant
    ∙ ap (λ (rest : List ℕ). c.loop-lane.self ++ rest) (lanes_done _ _ _ past)
    ∙ append-nil _)
