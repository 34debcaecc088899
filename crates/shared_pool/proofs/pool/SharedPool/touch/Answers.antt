use Rattle.std.proofs.Common.{false, refl, arith}
use Rattle.pool_law.specs.declared.note.Did.{Did}
use Rattle.pool_law.specs.declared.note.Object.TheVariants.{Root}
use Rattle.pool_law.specs.declared.report.Access.{Access}
use Rattle.shared_pool.specs.RootNotes.{access}
use Rattle.shared_pool.proofs.Endings.{ends, made}
use Rattle.shared_pool.proofs.SeatCalls.{seat_did}
use Rattle.shared_pool.proofs.SeatEnds.{held_seat}
use Rattle.shared_pool.proofs.PlaceHomes.{accessible, accessing, counts_root}
use Rattle.shared_pool.proofs.pool.SharedPool.touch.Goals as goal

pub touch-requires-clause-may : goal.touch-requires-clause-may
touch-requires-clause-may c =
    let l = c.args.self.now.table.layout in let root = c.args.root in let got = c.in-Ok.ensures.got in let seat =
    c.requires.seat in
    accessible l root c.args.seat.now.seat c.claim_place.new.seat c.in-Ok.section got seat.setting seat.settled
    (counts_root l root c.args.seat.now.seat c.claim_place.new.seat c.in-Ok.section got c.requires.counts)
    c.requires.counts
    0 0
    (omega arith)

pub note-number-requires-clause-section : goal.note-number-requires-clause-section
note-number-requires-clause-section c =
    let l = c.args.self.now.table.layout in let root = c.args.root in let got = c.in-Ok.ensures.got in let seat =
    c.requires.seat in let call = c.touch in
    ends l (Root root.place) c.args.seat.now.seat c.claim_place.new.seat c.in-Ok.section got seat.setting seat.settled
    call.new.section (access root Did.Touch)
    (accessing l root c.args.seat.now.seat c.claim_place.new.seat c.in-Ok.section call.new.section got seat.setting
    seat.settled c.lane_of-lane.result Did.Touch (Access.Touch c.lane_of-lane.result) c.requires.counts
    c.lane_of-lane.ensures.number (λ k. refl) refl refl refl refl call.ensures.same.0 call.ensures.same.1
    call.ensures.place call.ensures.did)

pub returns-clause-did : goal.returns-clause-did
returns-clause-did c =
    let l = c.args.self.now.table.layout in let root = c.args.root in let got = c.in-Ok.ensures.got in let seat =
    c.requires.seat in let call = c.touch in
    made l (Root root.place) c.args.seat.now c.claim_place.new.seat c.in-Ok.section got seat.setting seat.settled
    c.args.self.now c.note-number.new.seat call.new.section c.note-number.result (access root Did.Touch) refl
    (accessing l root c.args.seat.now.seat c.claim_place.new.seat c.in-Ok.section call.new.section got seat.setting
    seat.settled c.lane_of-lane.result Did.Touch (Access.Touch c.lane_of-lane.result) c.requires.counts
    c.lane_of-lane.ensures.number (λ k. refl) refl refl refl refl call.ensures.same.0 call.ensures.same.1
    call.ensures.place call.ensures.did)
    c.note-number.ensures.number c.note-number.ensures.noted

pub returns-clause-seat : goal.returns-clause-seat
returns-clause-seat c =
    seat_did c.args.self.now c.args.seat.now c.claim_place.new.seat c.note-number.new.seat (Root c.args.root.place)
    c.note-number.result (access c.args.root Did.Touch) refl c.requires.seat c.in-Ok.ensures.same
    c.note-number.ensures.same c.note-number.ensures.counts (returns-clause-did c)

pub returns-in-Err-clause-seat : goal.returns-in-Err-clause-seat
returns-in-Err-clause-seat c =
    held_seat c.args.self.now (Root c.args.root.place) false c.args.seat.now
    (record c.args.seat.now { seat = c.claim_place.new.seat }) c.in-Err.held c.requires.seat c.in-Err.ensures.same refl
    refl c.in-Err.ensures.held
