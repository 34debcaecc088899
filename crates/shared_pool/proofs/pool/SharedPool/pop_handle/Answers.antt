use Rattle.std.proofs.Common.{◌≡◌, ◌-◌, ap, ◌∙◌, subst, refl}
use Rattle.std.specs.Prelude.{false, ℕ, IfSome}
use Rattle.pool_law.specs.Naming.{noted_by}
use Rattle.shared_pool.specs.declared.seat.PoolSeat.{PoolSeat}
use Rattle.shared_pool.specs.SeatViews.{view_of}
use Rattle.shared_pool.specs.Holding.{HoldsHandle}
use Rattle.shared_pool.proofs.Numbers.{below}
use Rattle.shared_pool.proofs.PlaceHands.{popped_held}
use Rattle.pool_law.specs.declared.note.Noted.{Noted}
use Rattle.pool_law.specs.declared.note.Object.TheVariants.{Bin}
use Rattle.shared_pool.specs.SeatLanes.{lane_of}
use Rattle.shared_pool.specs.Seats.{IsNoted}
use Rattle.shared_pool.specs.Notes.{plain, popped}
use Rattle.shared_pool.proofs.BinHomes.{next, is_bin}
use Rattle.shared_pool.proofs.Endings.{ends, made, stood}
use Rattle.shared_pool.proofs.SeatCalls.{seat_did}
use Rattle.shared_pool.proofs.SeatEnds.{held_seat}
use Rattle.shared_pool.proofs.pool.SharedPool.pop_handle.Goals as goal

pub note-number-requires-clause-section : goal.note-number-requires-clause-section
note-number-requires-clause-section c =
    let got = c.in-Ok.ensures.got in let pop = c.pop-handle in let seat = c.requires.seat in
    ends c.args.self.now.table.layout (Bin c.lane_of-lane.result) c.args.seat.now.seat c.claim.new.seat c.in-Ok.section
    got
    seat.setting seat.settled pop.new.section c.noted-noted.result
    (next c.args.self.now.table.layout c.lane_of-lane.result c.args.seat.now.seat c.claim.new.seat c.in-Ok.section got
    seat.setting seat.settled pop.new.section (popped pop.result) pop.ensures.same.0 pop.ensures.same.1
    pop.ensures.bin pop.ensures.stands c.noted-noted.result (c.noted-noted.ensures ∙ ap plain c.taken.ensures))

pub returns-clause-did : goal.returns-clause-did
returns-clause-did c =
    let new : PoolSeat = record c.args.seat.now { seat = c.note-number.new.seat } in
    let got = c.in-Ok.ensures.got in let pop = c.pop-handle in let seat = c.requires.seat in
    let n : c.noted-noted.result ≡ plain (popped pop.result) = c.noted-noted.ensures ∙ ap plain c.taken.ensures in
    subst (λ (x : ℕ × Noted). IsNoted c.args.self.now c.args.seat.now new (Bin x.0)
    c.note-number.result x.1) (λ i. (c.lane_of-lane.ensures.lane i, n i))
    (made c.args.self.now.table.layout (Bin c.lane_of-lane.result) c.args.seat.now c.claim.new.seat c.in-Ok.section got
    seat.setting seat.settled c.args.self.now c.note-number.new.seat pop.new.section c.note-number.result
    c.noted-noted.result refl
    (next c.args.self.now.table.layout c.lane_of-lane.result c.args.seat.now.seat c.claim.new.seat c.in-Ok.section got
    seat.setting seat.settled pop.new.section (popped pop.result) pop.ensures.same.0 pop.ensures.same.1
    pop.ensures.bin pop.ensures.stands c.noted-noted.result n) c.note-number.ensures.number
    c.note-number.ensures.noted)

pub returns-clause-handle : goal.returns-clause-handle
returns-clause-handle c =
    let new : PoolSeat = record c.args.seat.now { seat = c.note-number.new.seat } in
    let got = c.in-Ok.ensures.got in let pop = c.pop-handle in let seat = c.requires.seat in
    let old = c.args.seat.now in let l = c.args.self.now.table.layout in let lane = c.lane_of-lane.result in
    let n = c.noted-noted.result in
    let is : n ≡ plain (popped pop.result) = c.noted-noted.ensures ∙ ap plain c.taken.ensures in
    let next = next l lane old.seat c.claim.new.seat c.in-Ok.section got seat.setting seat.settled pop.new.section
    (popped pop.result) pop.ensures.same.0 pop.ensures.same.1 pop.ensures.bin pop.ensures.stands n is in
    let v = view_of old in
    let seen = made l (Bin lane) old c.claim.new.seat c.in-Ok.section got seat.setting seat.settled c.args.self.now
    c.note-number.new.seat pop.new.section c.note-number.result n refl next c.note-number.ensures.number
    c.note-number.ensures.noted in
    let home = is_bin seat.setting got.history lane l.shape.handles c.in-Ok.section.home
    (stood l (Bin lane) old.seat c.claim.new.seat c.in-Ok.section got seat.setting seat.settled) in
    subst (λ (k : ℕ). IfSome pop.result (λ h. HoldsHandle c.args.self.now new h × (h.lane ≡ k)))
    c.lane_of-lane.ensures.lane
    (popped_held c.args.self.now lane old.seat c.claim.new.seat new c.in-Ok.section got seat.setting
    seat.settled c.note-number.result (v.turns - 1) (noted_by v.own.number n) pop.result
    (ap (λ (x : Noted). x.did) is)
    (below v.own.number seat.lane lane l.shape.lanes seat.number c.lane_of-lane.ensures.number seat.below)
    next.follows home pop.ensures.own pop.ensures.some_handle (ap (λ m. m.0) seen.seat))

pub returns-clause-seat : goal.returns-clause-seat
returns-clause-seat c =
    seat_did c.args.self.now c.args.seat.now c.claim.new.seat c.note-number.new.seat
    (Bin (lane_of c.args.seat.now)) c.note-number.result _ refl c.requires.seat
    c.claim.ensures.same c.note-number.ensures.same c.note-number.ensures.counts (returns-clause-did c)

pub returns-in-Err-clause-seat : goal.returns-in-Err-clause-seat
returns-in-Err-clause-seat c =
    held_seat c.args.self.now (Bin c.lane_of-lane.result) false c.args.seat.now
    (record c.args.seat.now { seat = c.claim.new.seat }) c.in-Err.held c.requires.seat c.claim.ensures.same refl refl
    c.in-Err.ensures.held
