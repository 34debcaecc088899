use Rattle.std.proofs.Common.{arith}
use Rattle.seat_work.proofs.Calls.{retained}
use Rattle.seat_work.proofs.Later.{later_ref}
use Rattle.seat_work.proofs.counts.retain.Goals as goal

pub returns-clause-proceeds : goal.returns-clause-proceeds
returns-clause-proceeds c =
    let call = c.retain in let works = c.requires.works in
    retained c.args.pool.now c.args.seat.now call.new.seat call.ensures.seat c.args.root 0 1 works c.requires.counts
    works.moves_left call.ensures.did

pub returns-clause-later : goal.returns-clause-later
returns-clause-later c =
    let call = c.retain in
    later_ref c.args.pool.now c.args.seat.now call.new.seat call.ensures.same c.requires.works.seat call.ensures.seat
    c.args.root _ _ 1 call.ensures.did (omega arith)
