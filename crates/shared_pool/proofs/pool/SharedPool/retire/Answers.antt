use Rattle.std.proofs.Common.{refl, inl, inr}
use Rattle.pool_law.specs.declared.note.RefDid.TheVariants.{Vacated}
use Rattle.pool_table.specs.Seats.{view_of}
use Rattle.shared_pool.specs.RootNotes.{end_of}
use Rattle.shared_pool.proofs.EndCalls.{HasRetired, has_token, may_end, end_ends, has_ended, has_retired}
use Rattle.shared_pool.proofs.SeatCalls.{seat_did_with}
use Rattle.shared_pool.proofs.pool.SharedPool.retire.Goals as goal

pub claim_place-requires-clause-enters : goal.claim_place-requires-clause-enters
claim_place-requires-clause-enters c =
    inl (c.root-root.result, refl, inr (has_token c.requires.token c.root-root.ensures))

pub unreachable-requires : goal.unreachable-requires
unreachable-requires c =
    c.in-Err.ensures.free (inr (c.root-root.result, refl, has_token c.requires.token c.root-root.ensures))

pub end-region-requires-clause-present : goal.end-region-requires-clause-present
end-region-requires-clause-present c =
    may_end c.requires.token c.root-root.ensures c.requires.seat c.in-Ok.ensures.got

pub note-number-requires-clause-section : goal.note-number-requires-clause-section
note-number-requires-clause-section c =
    let call = c.end-region in
    end_ends c.requires.token c.root-root.ensures c.requires.seat c.in-Ok.ensures.got call.new.section call.result.0
    call.result.1 call.ensures.same call.ensures.place call.ensures.root call.ensures.vacated

pub note-number-requires-clause-hands : goal.note-number-requires-clause-hands
note-number-requires-clause-hands c =
    rw c.in-Ok.ensures.got.view (has_token c.requires.token c.root-root.ensures)

pub vacate-requires-clause-ended : goal.vacate-requires-clause-ended
vacate-requires-clause-ended c =
    let call = c.end-region in
    has_ended c.requires.token c.root-root.ensures c.requires.seat c.in-Ok.ensures.got call.new.section call.result.0
    call.result.1 call.ensures.same call.ensures.place call.ensures.root call.ensures.vacated c.note-number.new.seat
    c.note-number.result c.note-number.ensures.number c.note-number.ensures.noted

-- at its return the seat has retired the root
retired : (c : goal.Joined-noted) → HasRetired c.args.self.now c.args.seat.now
    (record c.args.seat.now { seat = c.vacate.new.seat }) c.args.token.root c.note-number.result c.end-region.result.0
    c.end-region.result.1
retired c =
    let call = c.end-region in
    has_retired c.requires.token c.root-root.ensures c.requires.seat c.in-Ok.ensures.got call.new.section
    call.result.0 call.result.1 call.ensures.same call.ensures.place call.ensures.root call.ensures.vacated
    c.note-number.new.seat c.note-number.result c.note-number.ensures.number c.note-number.ensures.noted
    c.vacate.new.seat c.vacate.ensures.hand c.vacate.ensures.noted

pub returns-clause-did : goal.returns-clause-did
returns-clause-did c = (retired c).did

pub returns-clause-region : goal.returns-clause-region
returns-clause-region c = (retired c).region

pub returns-clause-handle : goal.returns-clause-handle
returns-clause-handle c = (retired c).handle

pub returns-clause-seat : goal.returns-clause-seat
returns-clause-seat c =
    let root = c.args.token.root in
    seat_did_with c.args.self.now c.args.seat.now c.claim_place.new.seat c.note-number.new.seat c.vacate.new.seat root
    c.note-number.result (end_of root c.end-region.result.0.id) Vacated (view_of c.args.seat.now.seat).moves
    c.requires.seat c.in-Ok.ensures.same c.note-number.ensures.same c.vacate.ensures.same c.vacate.ensures.counts
    (retired c).did
