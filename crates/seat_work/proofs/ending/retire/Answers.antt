use Rattle.std.proofs.Common.{refl, arith}
use Rattle.seat_work.proofs.Calls.{ended_root}
use Rattle.seat_work.proofs.Later.{later_with}
use Rattle.seat_work.proofs.ending.retire.Goals as goal

pub returns-clause-proceeds : goal.returns-clause-proceeds
returns-clause-proceeds c =
    let call = c.retire-region in let out = call.result in
    ended_root c.args.pool.now c.args.seat.now call.new.seat call.ensures.seat c.args.token.root out.handle.place
    out.number out.region.id c.requires.works call.ensures.did call.ensures.handle.1

pub returns-clause-later : goal.returns-clause-later
returns-clause-later c =
    let call = c.retire-region in let out = call.result in
    later_with c.args.pool.now c.args.seat.now call.new.seat call.ensures.same c.requires.works.seat call.ensures.seat
    c.args.token.root out.number _ _ _ 0 call.ensures.did (omega arith) refl
