use Rattle.std.proofs.Common.{◌≡◌, ℕ, ◌-◌, ◌≤◌, false, refl, sym, subst}
use Rattle.size_classes.specs.Sizes.{chunk_bytes}
use Rattle.pool_law.specs.declared.note.Did.{Did}
use Rattle.pool_law.specs.declared.note.Object.TheVariants.{Root}
use Rattle.pool_law.specs.Limits.{IsShape, geometry_of}
use Rattle.pool_law.specs.Naming.{noted_by}
use Rattle.pool_table.specs.declared.views.Entry.TheVariants.{At}
use Rattle.pool_table.specs.declared.views.Layout.{Layout}
use Rattle.pool_table.specs.declared.views.SeatView.{SeatView}
use Rattle.pool_table.specs.Capacities.{knows_of}
use Rattle.pool_table.specs.Seats.{view_of, HasView}
use Rattle.pool_table.specs.Sections.{MayEnd}
use Rattle.pool_table.specs.Views.{with_entry}
use Rattle.shared_pool.specs.Regrowing.{room_capacity, room_did}
use Rattle.shared_pool.specs.RootNotes.{access}
use Rattle.shared_pool.specs.Standing.{HomeStands}
use Rattle.shared_pool.proofs.Endings.{ends, made}
use Rattle.shared_pool.proofs.SeatCalls.{seat_did}
use Rattle.shared_pool.proofs.SeatEnds.{held_seat}
use Rattle.shared_pool.proofs.RegrowCalls.{regrows_here, room_next, room_knows}
use Rattle.shared_pool.proofs.pool.SharedPool.room.Goals as goal

pub room-room-requires-clause-may : goal.room-room-requires-clause-may
room-room-requires-clause-may c =
    regrows_here c.args.self.now.table.layout c.args.root c.args.seat.now.seat c.claim_place.new.seat c.in-Ok.section
    c.in-Ok.ensures.got c.requires.seat.setting c.requires.seat.settled c.requires.counts

pub note-number-requires-clause-section : goal.note-number-requires-clause-section
note-number-requires-clause-section c =
    let l = c.args.self.now.table.layout in let root = c.args.root in let got = c.in-Ok.ensures.got in let seat =
    c.requires.seat in let call = c.room-room in
    subst (λ (d : Did). MayEnd HomeStands l.shape c.claim_place.new.seat call.new.section (access root d))
    (sym c.did.ensures)
    (ends l (Root root.place) c.args.seat.now.seat c.claim_place.new.seat c.in-Ok.section got seat.setting seat.settled
    call.new.section (access root (room_did c.args.asked call.result))
    (room_next l root c.args.seat.now.seat c.claim_place.new.seat c.in-Ok.section got seat.setting seat.settled
    c.requires.counts call.new.section call.ensures.same.0 call.ensures.same.1 call.ensures.place c.args.asked
    call.result call.ensures.did))

pub returns-clause-did : goal.returns-clause-did
returns-clause-did c =
    let l = c.args.self.now.table.layout in let root = c.args.root in let got = c.in-Ok.ensures.got in let seat =
    c.requires.seat in let call = c.room-room in let w = view_of c.claim_place.new.seat in
    made l (Root root.place) c.args.seat.now c.claim_place.new.seat c.in-Ok.section got seat.setting seat.settled
    c.args.self.now c.note-number.new.seat call.new.section c.note-number.result
    (access root (room_did c.args.asked call.result)) refl
    (room_next l root c.args.seat.now.seat c.claim_place.new.seat c.in-Ok.section got seat.setting seat.settled
    c.requires.counts call.new.section call.ensures.same.0 call.ensures.same.1 call.ensures.place c.args.asked
    call.result call.ensures.did)
    c.note-number.ensures.number
    (subst (λ (d : Did). HasView c.note-number.new.seat
    (with_entry w (At call.new.section.object c.note-number.result (noted_by w.own.number (access root d)))
    (w.turns - 1)))
    c.did.ensures c.note-number.ensures.noted)

pub returns-clause-knows : goal.returns-clause-knows
returns-clause-knows c =
    let pool = c.args.self.now in let l = pool.table.layout in let root = c.args.root in
    let got = c.in-Ok.ensures.got in let seat = c.requires.seat in let call = c.room-room in
    let v = view_of c.args.seat.now.seat in
    let k : ℕ = room_capacity c.args.asked call.result in
    let shape : IsShape l.shape = subst (λ (y : Layout). IsShape y.shape) (sym pool.same_layout) pool.shape in
    subst (λ (x : SeatView). (knows_of root x ≡ k) × (k ≤ chunk_bytes (geometry_of l.shape)))
    (λ i. (sym (returns-clause-did c).seat i).0)
    (room_knows l root c.args.seat.now.seat c.claim_place.new.seat c.in-Ok.section got seat.setting seat.settled
    c.requires.counts call.new.section call.ensures.same.0 call.ensures.same.1 call.ensures.place c.args.asked
    call.result call.ensures.did shape c.note-number.result (v.turns - 1) v.own.number)

pub returns-clause-seat : goal.returns-clause-seat
returns-clause-seat c =
    seat_did c.args.self.now c.args.seat.now c.claim_place.new.seat c.note-number.new.seat (Root c.args.root.place)
    c.note-number.result (access c.args.root (room_did c.args.asked c.room-room.result)) refl c.requires.seat
    c.in-Ok.ensures.same c.note-number.ensures.same c.note-number.ensures.counts (returns-clause-did c)

pub returns-in-Err-clause-seat : goal.returns-in-Err-clause-seat
returns-in-Err-clause-seat c =
    held_seat c.args.self.now (Root c.args.root.place) false c.args.seat.now
    (record c.args.seat.now { seat = c.claim_place.new.seat }) c.in-Err.held c.requires.seat c.in-Err.ensures.same refl
    refl c.in-Err.ensures.held
