use Rattle.nest_run.proofs.EndSteps.{handle_left, end_proceeds, end_notes}
use Rattle.nest_run.proofs.endings.end.Goals as goal

pub put_handle-requires-clause-handle : goal.put_handle-requires-clause-handle
put_handle-requires-clause-handle g c =
    let call = c.retire-region in let out = call.result in let e = call.ensures in
    let given = c.give.ensures.did in
    handle_left c.args.pool.now c.args.token.root c.args.seat.now call.new.seat c.give.new.seat c.give.new.seat
    c.requires.works out.handle out.region out.number e.seat e.did e.handle.1 e.handle.0 given.0 c.give.ensures.seat
    given.1

pub returns-clause-proceeds : goal.returns-clause-proceeds
returns-clause-proceeds g c =
    let call = c.retire-region in let out = call.result in let e = call.ensures in
    let given = c.give.ensures.did in let home = c.put_handle.ensures.did in
    end_proceeds c.args.pool.now c.args.token.root c.args.seat.now call.new.seat c.give.new.seat c.put_handle.new.seat
    c.requires.works out.handle out.region out.number e.seat e.did e.handle.1 e.handle.0 given.0 c.give.ensures.seat
    given.1 home.0 c.put_handle.ensures.seat home.1

pub returns-clause-ended : goal.returns-clause-ended
returns-clause-ended g c =
    let call = c.retire-region in let out = call.result in let e = call.ensures in
    let given = c.give.ensures.did in let home = c.put_handle.ensures.did in
    end_notes c.args.pool.now c.args.token.root c.args.seat.now call.new.seat c.give.new.seat c.put_handle.new.seat
    c.requires.works out.handle out.region out.number e.seat e.did e.handle.1 e.handle.0 given.0 c.give.ensures.seat
    given.1 home.0 c.put_handle.ensures.seat home.1
