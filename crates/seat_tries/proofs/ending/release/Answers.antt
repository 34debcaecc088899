use Rattle.std.proofs.Common.{true, false, sym, subst, arith}
use Rattle.pool_law.specs.declared.id.RootId.{RootId}
use Rattle.seat_work.specs.Answers.{with_token}
use Rattle.seat_work.specs.Changes.{once_less}
use Rattle.seat_work.specs.Hands.{empty_hand}
use Rattle.seat_work.specs.Works.{Works}
use Rattle.seat_work.proofs.Calls.{released_kept, released_last}
use Rattle.seat_work.proofs.Later.{later_ref}
use Rattle.seat_work.proofs.Proceeding.{works_after}
use Rattle.seat_tries.proofs.Goings.{goes_first, leaves_none}
use Rattle.seat_tries.proofs.ending.release.Goals as goal

pub end-requires-clause-works : goal.end-requires-clause-works
end-requires-clause-works c =
    let pool = c.args.pool.now in let old = c.args.seat.now in let new = c.release.new.seat in let root = c.args.root in
    let works = c.requires.works in let did = c.in-Ended.ensures.did in
    subst (λ (r : RootId). Works pool (with_token r) 4 0 new) (sym did.0)
    (works_after pool empty_hand (with_token root) 4 0 0 0 4 0 old new works
    (released_last pool old new c.release.ensures.seat root 4 0 works c.requires.counts did.2).goes (omega arith)
    (omega arith))

pub returns-in-Kept-clause-goes : goal.returns-in-Kept-clause-goes
returns-in-Kept-clause-goes c =
    let pool = c.args.pool.now in let old = c.args.seat.now in let call = c.release in let new = call.new.seat in
    let root = c.args.root in
    leaves_none pool (once_less root false) 0 4 old new (omega arith)
    (released_kept pool old new call.ensures.seat root 4 0 c.requires.works c.requires.counts c.in-Kept.ensures.did)
    (later_ref pool old new call.ensures.same c.requires.works.seat call.ensures.seat root _ _ 0 c.in-Kept.ensures.did
    (omega arith))

pub returns-in-Ended-clause-goes : goal.returns-in-Ended-clause-goes
returns-in-Ended-clause-goes c =
    let pool = c.args.pool.now in let old = c.args.seat.now in let call = c.release in let mid = call.new.seat in
    let root = c.args.root in let did = c.in-Ended.ensures.did in
    goes_first pool (once_less root true) (with_token root) 0 4 4 old mid c.end.new.seat c.end.result
    (later_ref pool old mid call.ensures.same c.requires.works.seat call.ensures.seat root _ _ 0 did.2 (omega arith))
    (omega arith)
    (released_last pool old mid call.ensures.seat root 4 0 c.requires.works c.requires.counts did.2) c.end.ensures
