use Rattle.std.proofs.Common.{true, false, sym, subst, arith}
use Rattle.pool_law.specs.declared.id.RootId.{RootId}
use Rattle.seat_work.specs.Answers.{with_place, with_both, with_token}
use Rattle.seat_work.specs.Changes.{no_change, once_less}
use Rattle.seat_work.specs.Hands.{empty_hand}
use Rattle.seat_work.specs.Works.{Works}
use Rattle.seat_work.proofs.Calls.{released_kept, released_last}
use Rattle.seat_work.proofs.Later.{later_on, later_ref}
use Rattle.seat_work.proofs.Proceeding.{proceeds_on, proceeds_then, proceeds_more, works_after}
use Rattle.seat_work.proofs.counts.release.Goals as goal

pub retire-handle-requires-clause-works : goal.retire-handle-requires-clause-works
retire-handle-requires-clause-works g c =
    let pool = c.args.pool.now in let old = c.args.seat.now in let new = c.release.new.seat in let root = c.args.root in
    let works = c.requires.works in let did = c.in-Ended.ensures.did in
    subst (λ (r : RootId). Works pool (with_token r) 1 0 new) (sym did.0)
    (works_after pool empty_hand (with_token root) 4 0 0 0 1 0 old new works
    (released_last pool old new c.release.ensures.seat root 4 0 works c.requires.counts did.2).goes (omega arith)
    (omega arith))

pub put_back-requires-clause-works : goal.put_back-requires-clause-works
put_back-requires-clause-works g c =
    let pool = c.args.pool.now in let old = c.args.seat.now in let mid = c.release.new.seat in let root = c.args.root in
    let works = c.requires.works in let did = c.in-Ended.ensures.did in let next = c.retire-handle in
    let out = next.result in
    works_after pool (with_token root) (with_both out.0.place out.1.id) 4 0 1 0 2 0 mid next.new.seat
    (works_after pool empty_hand (with_token root) 4 0 0 0 4 0 old mid works
    (released_last pool old mid c.release.ensures.seat root 4 0 works c.requires.counts did.2).goes (omega arith)
    (omega arith)) next.ensures.proceeds.goes (omega arith) (omega arith)

pub put_handle-requires-clause-works : goal.put_handle-requires-clause-works
put_handle-requires-clause-works g c =
    let pool = c.args.pool.now in let old = c.args.seat.now in let mid = c.release.new.seat in let root = c.args.root in
    let works = c.requires.works in let did = c.in-Ended.ensures.did in let next = c.retire-handle in
    let out = next.result in
    works_after pool (with_token root) (with_place out.0.place) 4 0 3 0 1 0 mid c.put_back.new.seat
    (works_after pool empty_hand (with_token root) 4 0 0 0 4 0 old mid works
    (released_last pool old mid c.release.ensures.seat root 4 0 works c.requires.counts did.2).goes (omega arith)
    (omega arith))
    (proceeds_on pool no_change (with_both out.0.place out.1.id) (with_place out.0.place) 1 0 2 0 3 0 mid next.new.seat
    c.put_back.new.seat next.ensures.proceeds c.put_back.ensures.proceeds (omega arith) (omega arith)).goes
    (omega arith) (omega arith)

pub returns-in-Kept-clause-proceeds : goal.returns-in-Kept-clause-proceeds
returns-in-Kept-clause-proceeds g c =
    let pool = c.args.pool.now in let old = c.args.seat.now in let new = c.release.new.seat in let root = c.args.root in
    proceeds_more pool (once_less root false) empty_hand 0 0 4 0 old new
    (released_kept pool old new c.release.ensures.seat root 4 0 c.requires.works c.requires.counts
    c.in-Kept.ensures.did) (omega arith) (omega arith)

pub returns-in-Ended-clause-proceeds : goal.returns-in-Ended-clause-proceeds
returns-in-Ended-clause-proceeds g c =
    let pool = c.args.pool.now in let old = c.args.seat.now in let mid = c.release.new.seat in let root = c.args.root in
    let next = c.retire-handle in let out = next.result in let last = c.put_handle.new.seat in
    proceeds_then pool (once_less root true) (with_token root) empty_hand 0 0 4 0 4 0 old mid last
    (released_last pool old mid c.release.ensures.seat root 4 0 c.requires.works c.requires.counts
    c.in-Ended.ensures.did.2)
    (proceeds_on pool no_change (with_both out.0.place out.1.id) empty_hand 1 0 3 0 4 0 mid next.new.seat last
    next.ensures.proceeds
    (proceeds_on pool no_change (with_place out.0.place) empty_hand 2 0 1 0 3 0 next.new.seat c.put_back.new.seat last
    c.put_back.ensures.proceeds c.put_handle.ensures.proceeds (omega arith) (omega arith)) (omega arith) (omega arith))
    (omega arith) (omega arith)

pub returns-in-Kept-clause-later : goal.returns-in-Kept-clause-later
returns-in-Kept-clause-later g c =
    let call = c.release in
    later_ref c.args.pool.now c.args.seat.now call.new.seat call.ensures.same c.requires.works.seat call.ensures.seat
    c.args.root _ _ 0 c.in-Kept.ensures.did (omega arith)

pub returns-in-Ended-clause-later : goal.returns-in-Ended-clause-later
returns-in-Ended-clause-later g c =
    let call = c.release in
    later_on c.args.pool.now c.args.seat.now call.new.seat c.put_handle.new.seat
    (later_ref c.args.pool.now c.args.seat.now call.new.seat call.ensures.same c.requires.works.seat call.ensures.seat
    c.args.root _ _ 0 c.in-Ended.ensures.did.2 (omega arith))
    (later_on c.args.pool.now call.new.seat c.retire-handle.new.seat c.put_handle.new.seat c.retire-handle.ensures.later
    (later_on c.args.pool.now c.retire-handle.new.seat c.put_back.new.seat c.put_handle.new.seat
    c.put_back.ensures.later c.put_handle.ensures.later))
