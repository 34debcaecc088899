use Rattle.std.proofs.Common.{arith}
use Rattle.lane_reader.proofs.log.Log.bear.Goals as goal

pub returns-in_err-behind-in-None : goal.returns-in_err-behind-in-None
returns-in_err-behind-in-None c before =
    let first = c.in_err-behind-in-None.ensures before in rw c.in-None.is (grind (arith, first))

pub returns-in_err-root-in-Some : goal.returns-in_err-root-in-Some
returns-in_err-root-in-Some c before =
    let first = c.in_err-root-in-Some.ensures.reads before in rw c.in-Some.is (grind (arith, first))

pub returns-in_err-behind-in-Some : goal.returns-in_err-behind-in-Some
returns-in_err-behind-in-Some c before =
    let first = c.in_ok-root-in-Some.ensures.reads before in
    let second = c.in_err-behind-in-Some.ensures before in
    rw c.in-Some.is (grind (arith, first, second))
