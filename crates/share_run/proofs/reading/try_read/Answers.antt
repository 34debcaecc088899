use Rattle.std.proofs.Common.{arith}
use Rattle.share_run.proofs.ReadLaws.{keeps_done}
use Rattle.share_run.proofs.reading.try_read.Goals as goal

pub returns-in-Ok-clause-kept : goal.returns-in-Ok-clause-kept
returns-in-Ok-clause-kept c =
    keeps_done c.args.board.now c.args.k c.args.seat.now c.read.new.seat c.read.ensures.own c.requires.counts
    (let a = c.requires.turn in let b = c.requires.turns in omega (arith, a, b)) c.in-Ok.ensures.read.section.view

pub returns-in-Err-Pool-clause-kept : goal.returns-in-Err-Pool-clause-kept
returns-in-Err-Pool-clause-kept c =
    let busy = rw c.in-Err-Pool.field-0-is at c.in-Err-Pool.ensures.busy in
    keeps_done c.args.board.now c.args.k c.args.seat.now c.read.new.seat c.read.ensures.own c.requires.counts
    (let a = c.requires.turn in let b = c.requires.turns in omega (arith, a, b)) busy.section.view
