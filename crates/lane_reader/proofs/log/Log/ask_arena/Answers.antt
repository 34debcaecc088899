use Rattle.std.proofs.Common.{arith}
use Rattle.lane_reader.proofs.log.Log.ask_arena.Goals as goal

pub returns-in_err-behind : goal.returns-in_err-behind
returns-in_err-behind c before =
    let first = c.in_default.ensures before in
    let second = c.in_err-behind.ensures before in
    grind (arith, first, second)
