use Rattle.std.proofs.Common.{refl, ap, ◌≡◌, subst}
use Rattle.seat_work.specs.Answers.{hand_got, handle_told, with_got}
use Rattle.seat_work.specs.Hands.{empty_hand, lane_in}
use Rattle.shared_pool.specs.SeatLanes.{lane_of}
use Rattle.seat_work.proofs.Calls.{some_handle, popped_handle}
use Rattle.seat_work.proofs.Later.{later_same, later_noted, quiet_popped}
use Rattle.seat_work.proofs.Proceeding.{works_same, proceeds_same}
use Rattle.seat_work.proofs.Worn.{took_handle, took_on}
use Rattle.std.specs.Prelude.{IfSome}
use Rattle.pool_law.specs.Patterns.{allot}
use Rattle.pool_table.specs.declared.views.SeatView.{SeatView}
use Rattle.shared_pool.specs.SeatViews.{view_of}
use Rattle.seat_work.specs.Readings.{NotesOn}
use Rattle.seat_work.proofs.Handles.{handle_noted, own_handle}
use Rattle.seat_work.proofs.popping.pop_handle.Goals as goal

pub returns-in-Did-clause-proceeds : goal.returns-in-Did-clause-proceeds
returns-in-Did-clause-proceeds g c =
    let did = c.in-Did in
    popped_handle c.args.pool.now c.args.seat.now c.pop_handle.new.seat did.ensures.seat did._number did.handle
    c.requires did.ensures.did

pub returns-in-Did-clause-handle : goal.returns-in-Did-clause-handle
returns-in-Did-clause-handle g c =
    some_handle c.args.pool.now c.pop_handle.new.seat c.in-Did.handle (lane_of c.args.seat.now) c.in-Did.ensures.handle

pub returns-in-Did-clause-took : goal.returns-in-Did-clause-took
returns-in-Did-clause-took g c =
    let did = c.in-Did in let old = c.args.seat.now in
    took_handle c.args.pool.now old old c.pop_handle.new.seat did.handle did._number (refl, refl) did.ensures.same refl
    did.ensures.did

pub returns-in-Did-clause-later : goal.returns-in-Did-clause-later
returns-in-Did-clause-later g c =
    let did = c.in-Did in
    later_noted c.args.pool.now c.args.seat.now c.pop_handle.new.seat did.ensures.same c.requires.seat did.ensures.seat
    did.ensures.did (quiet_popped did.handle)

pub wait_for_handle-requires : goal.wait_for_handle-requires
wait_for_handle-requires g c =
    works_same c.args.pool.now empty_hand 1 0 c.args.seat.now c.pop_handle.new.seat c.in-Held.ensures.seat
    (ap (λ m. m.0) c.in-Held.ensures.held.marked) c.requires

pub returns-in-Held-clause-proceeds : goal.returns-in-Held-clause-proceeds
returns-in-Held-clause-proceeds g c =
    let next = c.wait_for_handle in
    proceeds_same c.args.pool.now (handle_told next.result) (hand_got next.result) 1 0 c.args.seat.now
    c.pop_handle.new.seat next.new.seat (ap (λ m. m.0) c.in-Held.ensures.held.marked) next.ensures.proceeds

pub returns-in-Held-clause-took : goal.returns-in-Held-clause-took
returns-in-Held-clause-took g c =
    let held = c.in-Held.ensures in let next = c.wait_for_handle in
    took_on c.args.pool.now c.args.seat.now c.pop_handle.new.seat next.new.seat next.result held.same
    (ap (λ m. m.0) held.held.marked) next.ensures.took

pub returns-in-Held-clause-later : goal.returns-in-Held-clause-later
returns-in-Held-clause-later g c =
    let held = c.in-Held.ensures in let next = c.wait_for_handle in
    later_same c.args.pool.now c.args.seat.now c.pop_handle.new.seat next.new.seat held.same
    (ap (λ m. m.0) held.held.marked) next.ensures.later

pub returns-in-Did-clause-own : goal.returns-in-Did-clause-own
returns-in-Did-clause-own g c =
    own_handle c.args.pool.now c.pop_handle.new.seat c.in-Did.handle (lane_of c.args.seat.now) c.in-Did.ensures.handle

pub returns-in-Did-clause-reads : goal.returns-in-Did-clause-reads
returns-in-Did-clause-reads g c =
    λ size. handle_noted c.args.pool.now c.args.seat.now c.pop_handle.new.seat c.in-Did.handle c.in-Did._number
    c.in-Did.ensures.did size

pub returns-in-Held-clause-own : goal.returns-in-Held-clause-own
returns-in-Held-clause-own g c =
    let next = c.wait_for_handle in
    subst (λ (v : SeatView). IfSome next.result (λ h. h.lane ≡ lane_in v))
    (ap (λ m. m.0) c.in-Held.ensures.held.marked) next.ensures.own

pub returns-in-Held-clause-reads : goal.returns-in-Held-clause-reads
returns-in-Held-clause-reads g c =
    λ size. (let next = c.wait_for_handle in let shape = c.args.pool.now.table.layout.shape in
    subst (λ (v : SeatView). NotesOn (allot shape (lane_in v) size) (with_got shape (lane_in v) size next.result) v
    (view_of next.new.seat)) (ap (λ m. m.0) c.in-Held.ensures.held.marked) (next.ensures.reads size))
