use Rattle.std.proofs.Common.{arith}
use Rattle.lane_stages.proofs.DrainSteps.{drain_left}
use Rattle.lane_stages.proofs.draining.drain.Goals as goal

pub ask-requires-clause-room : goal.ask-requires-clause-room
ask-requires-clause-room c =
    let a = c.requires.room in let b = drain_left c.args.pool.now c.args.seat.now c.args.stage c.requires.may.fits
    c.requires.more in
    omega (arith, a, b)

pub shed-requires-clause-room : goal.shed-requires-clause-room
shed-requires-clause-room c =
    let a = c.requires.room in let b = drain_left c.args.pool.now c.args.seat.now c.args.stage c.requires.may.fits
    c.requires.more in
    omega (arith, a, b)

pub give-requires-clause-room : goal.give-requires-clause-room
give-requires-clause-room c =
    let a = c.requires.room in let b = drain_left c.args.pool.now c.args.seat.now c.args.stage c.requires.may.fits
    c.requires.more in
    omega (arith, a, b)
