use Rattle.std.proofs.Common.{refl, arith}
use Rattle.seat_work.specs.Answers.{with_both, with_token}
use Rattle.seat_work.specs.Changes.{no_change}
use Rattle.seat_work.proofs.Calls.{ended_root}
use Rattle.seat_work.proofs.Holds.{is_handle, is_region}
use Rattle.seat_work.proofs.Later.{later_with}
use Rattle.seat_work.proofs.Proceeding.{works_after}
use Rattle.seat_tries.proofs.Goings.{goes_then, works_less}
use Rattle.seat_tries.proofs.ending.end.Goals as goal

pub put_away-requires-clause-works : goal.put_away-requires-clause-works
put_away-requires-clause-works c =
    let pool = c.args.pool.now in let old = c.args.seat.now in let call = c.retire-region in let mid = call.new.seat in
    let out = call.result in let root = c.args.token.root in let works = c.requires.works in
    works_after pool (with_token root) (with_both out.handle.place out.region.id) 4 0 1 0 3 0 old mid works
    (ended_root pool old mid call.ensures.seat root out.handle.place out.number out.region.id
    (works_less pool (with_token root) 4 0 1 0 old works (omega arith) (omega arith)) call.ensures.did
    call.ensures.handle.1).goes (omega arith) (omega arith)

pub put_away-requires-clause-handle : goal.put_away-requires-clause-handle
put_away-requires-clause-handle c =
    let call = c.retire-region in is_handle c.args.pool.now call.new.seat call.result.handle call.ensures.handle.0

pub put_away-requires-clause-region : goal.put_away-requires-clause-region
put_away-requires-clause-region c =
    let call = c.retire-region in is_region c.args.pool.now call.new.seat call.result.region call.ensures.region

pub returns : goal.returns
returns c =
    let pool = c.args.pool.now in let old = c.args.seat.now in let call = c.retire-region in let mid = call.new.seat in
    let out = call.result in let root = c.args.token.root in let works = c.requires.works in
    goes_then pool no_change (with_both out.handle.place out.region.id) 1 3 4 old mid c.put_away.new.seat
    c.put_away.result
    (later_with pool old mid call.ensures.same works.seat call.ensures.seat root out.number _ _ _ 0 call.ensures.did
    (omega arith) refl) (omega arith)
    (ended_root pool old mid call.ensures.seat root out.handle.place out.number out.region.id
    (works_less pool (with_token root) 4 0 1 0 old works (omega arith) (omega arith)) call.ensures.did
    call.ensures.handle.1) c.put_away.ensures
