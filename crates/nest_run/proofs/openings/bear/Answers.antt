use Rattle.std.proofs.Common.{◌%◌}
use Rattle.shared_pool.specs.SeatLanes.{lane_of}
use Rattle.nest_run.proofs.OpenLaws.{still_held, is_born}
use Rattle.nest_run.proofs.openings.bear.Goals as goal

pub birth-number-requires-clause-handle : goal.birth-number-requires-clause-handle
birth-number-requires-clause-handle g c =
    let pool = c.args.pool.now in let s1 = c.pop_handle.new.seat in let s2 = c.take.new.seat in
    let p = c.in_ok-handle.ensures {u = tt} in let t = c.in-Some.ensures {u = tt} in
    still_held pool c.requires.layout c.args.seat.now s1 s2 s2 c.requires.seat c.in_ok-handle.handle p.did.0
    p.seat p.did.1 p.handle c.in-Some.region 67 (lane_of s1 % pool.table.layout.shape.arenas) t.did.0 t.seat t.did.1

pub returns-clause-born : goal.returns-clause-born
returns-clause-born g c =
    let pool = c.args.pool.now in let s1 = c.pop_handle.new.seat in let s2 = c.take.new.seat in
    let p = c.in_ok-handle.ensures {u = tt} in let t = c.in-Some.ensures {u = tt} in
    let call = c.birth-number in let e = call.ensures in
    is_born pool c.requires.layout c.args.seat.now s1 s2 call.new.seat c.requires.seat c.in_ok-handle.handle
    p.did.0 p.seat p.did.1 p.handle c.in-Some.region 67 (lane_of s1 % pool.table.layout.shape.arenas) t.did.0 t.seat
    t.did.1 call.result.1 c.args.capacity call.result.0 e.seat e.root.0 e.root.1 e.did
