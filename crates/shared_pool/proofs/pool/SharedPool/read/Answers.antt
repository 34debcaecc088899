use Rattle.std.proofs.Common.{refl, ◌∙◌}
use Rattle.pool_law.specs.declared.note.Did.{Did}
use Rattle.pool_law.specs.declared.note.Object.TheVariants.{Root}
use Rattle.pool_law.specs.declared.report.Access.{Access}
use Rattle.std.specs.Prelude.{length}
use Rattle.shared_pool.specs.RootNotes.{access}
use Rattle.shared_pool.proofs.Endings.{ends, made}
use Rattle.shared_pool.proofs.LoneSeats.{lone_get}
use Rattle.shared_pool.proofs.SeatCalls.{seat_did}
use Rattle.shared_pool.proofs.SeatEnds.{held_seat}
use Rattle.shared_pool.proofs.PlaceHomes.{accessible, accessing, counts_root}
use Rattle.shared_pool.proofs.pool.SharedPool.read.Goals as goal

pub get-requires-clause-may : goal.get-requires-clause-may
get-requires-clause-may c =
    let l = c.args.self.now.table.layout in let root = c.args.root in let got = c.in-Ok.ensures.got in let seat =
    c.requires.seat in
    accessible l root c.args.seat.now.seat c.claim_place.new.seat c.in-Ok.section got seat.setting seat.settled
    (counts_root l root c.args.seat.now.seat c.claim_place.new.seat c.in-Ok.section got c.requires.counts)
    c.requires.counts
    c.args.offset
    (length c.args.out.now) c.requires.range

pub note_get-number-requires-clause-section : goal.note_get-number-requires-clause-section
note_get-number-requires-clause-section c =
    let l = c.args.self.now.table.layout in let root = c.args.root in let got = c.in-Ok.ensures.got in let seat =
    c.requires.seat in let call = c.get in
    ends l (Root root.place) c.args.seat.now.seat c.claim_place.new.seat c.in-Ok.section got seat.setting seat.settled
    call.new.section (access root (Did.Get c.args.offset c.get.new.out))
    (accessing l root c.args.seat.now.seat c.claim_place.new.seat c.in-Ok.section call.new.section got seat.setting
    seat.settled c.lane_of-lane.result (Did.Get c.args.offset c.get.new.out)
    (Access.Get c.lane_of-lane.result c.args.offset (length c.get.new.out)) c.requires.counts
    c.lane_of-lane.ensures.number (λ k. refl) refl refl refl refl call.ensures.same.0 call.ensures.same.1
    call.ensures.place call.ensures.did)

pub returns-clause-did : goal.returns-clause-did
returns-clause-did c =
    let l = c.args.self.now.table.layout in let root = c.args.root in let got = c.in-Ok.ensures.got in let seat =
    c.requires.seat in let call = c.get in
    made l (Root root.place) c.args.seat.now c.claim_place.new.seat c.in-Ok.section got seat.setting seat.settled
    c.args.self.now c.note_get-number.new.seat call.new.section c.note_get-number.result
    (access root (Did.Get c.args.offset c.get.new.out)) refl
    (accessing l root c.args.seat.now.seat c.claim_place.new.seat c.in-Ok.section call.new.section got seat.setting
    seat.settled c.lane_of-lane.result (Did.Get c.args.offset c.get.new.out)
    (Access.Get c.lane_of-lane.result c.args.offset (length c.get.new.out)) c.requires.counts
    c.lane_of-lane.ensures.number (λ k. refl) refl refl refl refl call.ensures.same.0 call.ensures.same.1
    call.ensures.place call.ensures.did)
    c.note_get-number.ensures.number c.note_get-number.ensures.noted

pub note_get-number-requires-clause-object : goal.note_get-number-requires-clause-object
note_get-number-requires-clause-object c = c.get.ensures.same.0 ∙ c.in-Ok.ensures.got.object

pub returns-clause-seat : goal.returns-clause-seat
returns-clause-seat c =
    seat_did c.args.self.now c.args.seat.now c.claim_place.new.seat c.note_get-number.new.seat (Root c.args.root.place)
    c.note_get-number.result (access c.args.root (Did.Get c.args.offset c.get.new.out)) refl c.requires.seat
    c.in-Ok.ensures.same c.note_get-number.ensures.same c.note_get-number.ensures.counts (returns-clause-did c)

pub returns-in-Err-clause-seat : goal.returns-in-Err-clause-seat
returns-in-Err-clause-seat c =
    held_seat c.args.self.now (Root c.args.root.place) c.args.mark c.args.seat.now
    (record c.args.seat.now { seat = c.claim_place.new.seat }) c.in-Err.held c.requires.seat c.in-Err.ensures.same refl
    refl c.in-Err.ensures.held

pub returns-clause-lone : goal.returns-clause-lone
returns-clause-lone c =
    let l = c.args.self.now.table.layout in let root = c.args.root in let got = c.in-Ok.ensures.got in let seat =
    c.requires.seat in let call = c.get in
    λ lone. lone_get l root c.args.seat.now.seat c.claim_place.new.seat c.in-Ok.section got seat.lane c.args.offset
    call.new.out c.requires.counts seat.number
    (accessing l root c.args.seat.now.seat c.claim_place.new.seat c.in-Ok.section call.new.section got seat.setting
    seat.settled c.lane_of-lane.result (Did.Get c.args.offset c.get.new.out)
    (Access.Get c.lane_of-lane.result c.args.offset (length c.get.new.out)) c.requires.counts
    c.lane_of-lane.ensures.number (λ k. refl) refl refl refl refl call.ensures.same.0 call.ensures.same.1
    call.ensures.place call.ensures.did).follows lone
