use Rattle.std.proofs.Common.{arith}
use Rattle.lane_reader.proofs.log.Log.try_set_row.Goals as goal

pub returns-in_err-behind-clause-row : goal.returns-in_err-behind-clause-row
returns-in_err-behind-clause-row c setting s is allowed =
    let there = c.in_ok-view.ensures s is in
    let idle = c.in_default.ensures s.seen in
    let unset = c.in_err-behind.ensures s.seen in
    grind (arith, there, idle, unset)
