use Rattle.std.proofs.Common.{refl}
use Rattle.lane_reader.proofs.log.Log.send_row.Goals as goal

pub returns-in_err-behind-clause-row : goal.returns-in_err-behind-clause-row
returns-in_err-behind-clause-row c s is allowed =
    let there = c.in_ok-view.ensures s is in
    let unposted = c.in_err-behind.ensures s.seen in
    rw (c.from_residual-in_err-behind.ensures, there, unposted) refl
