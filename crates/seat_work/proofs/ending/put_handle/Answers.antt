use Rattle.std.proofs.Common.{refl, sym, subst, ap}
use Rattle.handle_bin.specs.Bins.{HandleValue}
use Rattle.seat_work.specs.Answers.{with_place}
use Rattle.seat_work.specs.Changes.{no_change}
use Rattle.seat_work.specs.Hands.{empty_hand, IsHandle}
use Rattle.seat_work.specs.Works.{Works}
use Rattle.seat_work.proofs.Calls.{handle_home}
use Rattle.seat_work.proofs.Holds.{holds_handle}
use Rattle.seat_work.proofs.Later.{later_same, later_noted}
use Rattle.seat_work.proofs.Proceeding.{works_same, proceeds_same}
use Rattle.pool_law.specs.declared.note.Object.TheVariants.{Bin}
use Rattle.pool_law.specs.Dids as says
use Rattle.pool_law.specs.Readers.{note}
use Rattle.pool_table.specs.declared.views.SeatView.{SeatView}
use Rattle.shared_pool.specs.SeatViews.{view_of}
use Rattle.seat_work.specs.Readings.{NotesAs}
use Rattle.seat_work.proofs.Handles.{home_noted}
use Rattle.seat_work.proofs.ending.put_handle.Goals as goal

pub put_handle-requires-clause-handle : goal.put_handle-requires-clause-handle
put_handle-requires-clause-handle g c =
    let own = c.args.own in
    holds_handle c.args.pool.now c.args.seat.now (with_place own.place) own c.requires.works.held c.requires.handle

pub returns-in-Did-clause-proceeds : goal.returns-in-Did-clause-proceeds
returns-in-Did-clause-proceeds g c =
    let did = c.in-Did in
    handle_home c.args.pool.now c.args.seat.now c.put_handle.new.seat did.ensures.seat did._number c.args.own
    c.requires.works did.ensures.did

pub returns-in-Did-clause-later : goal.returns-in-Did-clause-later
returns-in-Did-clause-later g c =
    let did = c.in-Did in
    later_noted c.args.pool.now c.args.seat.now c.put_handle.new.seat did.ensures.same c.requires.works.seat
    did.ensures.seat did.ensures.did refl

pub wait_to_put_handle-requires-clause-works : goal.wait_to_put_handle-requires-clause-works
wait_to_put_handle-requires-clause-works g c =
    let pool = c.args.pool.now in let mid = c.put_handle.new.seat in let held = c.in-Held.ensures in
    subst (λ (h : HandleValue). Works pool (with_place h.place) 1 0 mid) (sym held.held.0)
    (works_same pool (with_place c.args.own.place) 1 0 c.args.seat.now mid held.seat
    (ap (λ m. m.0) held.held.1.marked) c.requires.works)

pub wait_to_put_handle-requires-clause-handle : goal.wait_to_put_handle-requires-clause-handle
wait_to_put_handle-requires-clause-handle g c =
    subst (λ (h : HandleValue). IsHandle c.args.pool.now h) (sym c.in-Held.ensures.held.0) c.requires.handle

pub returns-in-Held-clause-proceeds : goal.returns-in-Held-clause-proceeds
returns-in-Held-clause-proceeds g c =
    let next = c.wait_to_put_handle in
    proceeds_same c.args.pool.now no_change empty_hand 1 0 c.args.seat.now c.put_handle.new.seat next.new.seat
    (ap (λ m. m.0) c.in-Held.ensures.held.1.marked) next.ensures.proceeds

pub returns-in-Held-clause-later : goal.returns-in-Held-clause-later
returns-in-Held-clause-later g c =
    let held = c.in-Held.ensures in let next = c.wait_to_put_handle in
    later_same c.args.pool.now c.args.seat.now c.put_handle.new.seat next.new.seat held.same
    (ap (λ m. m.0) held.held.1.marked) next.ensures.later

pub returns-in-Did-clause-reads : goal.returns-in-Did-clause-reads
returns-in-Did-clause-reads g c =
    home_noted c.args.pool.now c.args.seat.now c.put_handle.new.seat c.args.own c.in-Did._number c.in-Did.ensures.did

pub returns-in-Held-clause-reads : goal.returns-in-Held-clause-reads
returns-in-Held-clause-reads g c =
    let held = c.in-Held.ensures.held in let next = c.wait_to_put_handle in let new = view_of next.new.seat in
    subst (λ (h : HandleValue). NotesAs (note (Bin h.lane) (says.home h.place)) tt (view_of c.args.seat.now) new) held.0
    (subst (λ (v : SeatView). NotesAs (note (Bin c.in-Held.back.lane) (says.home c.in-Held.back.place)) tt v new)
    (ap (λ m. m.0) held.1.marked) next.ensures.reads)
