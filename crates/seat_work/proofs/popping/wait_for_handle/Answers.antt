use Rattle.seat_work.specs.Answers.{hand_got, handle_told, with_got}
use Rattle.seat_work.specs.Hands.{empty_hand, lane_in}
use Rattle.shared_pool.specs.SeatLanes.{lane_of}
use Rattle.seat_work.proofs.Calls.{some_handle, popped_handle}
use Rattle.seat_work.proofs.Later.{later_same, later_noted, quiet_popped}
use Rattle.seat_work.proofs.Proceeding.{works_same, proceeds_same}
use Rattle.seat_work.proofs.Worn.{took_handle}
use Rattle.std.proofs.Common.{◌≡◌, subst}
use Rattle.std.specs.Prelude.{IfSome}
use Rattle.pool_law.specs.Patterns.{allot}
use Rattle.pool_table.specs.declared.views.SeatView.{SeatView}
use Rattle.shared_pool.specs.SeatViews.{view_of}
use Rattle.seat_work.specs.Readings.{NotesOn}
use Rattle.seat_work.proofs.Handles.{handle_noted, own_handle}
use Rattle.seat_work.proofs.popping.wait_for_handle.Goals as goal

pub returns-in-Did-clause-proceeds : goal.returns-in-Did-clause-proceeds
returns-in-Did-clause-proceeds g c =
    let pool = c.args.pool.now in let old = c.args.seat.now in let mid = c.loop.seat in let did = c.in-Did in
    let new = c.pop_handle.new.seat in let inv = c.loop.invariant in
    proceeds_same pool (handle_told did.handle) (hand_got did.handle) 1 0 old mid new inv.1
    (popped_handle pool mid new did.ensures.seat did._number did.handle
    (works_same pool empty_hand 1 0 old mid inv.0 inv.1 c.requires) did.ensures.did)

pub returns-in-Did-clause-handle : goal.returns-in-Did-clause-handle
returns-in-Did-clause-handle g c =
    some_handle c.args.pool.now c.pop_handle.new.seat c.in-Did.handle (lane_of c.loop.seat) c.in-Did.ensures.handle

pub returns-in-Did-clause-took : goal.returns-in-Did-clause-took
returns-in-Did-clause-took g c =
    let did = c.in-Did in let inv = c.loop.invariant in
    took_handle c.args.pool.now c.args.seat.now c.loop.seat c.pop_handle.new.seat did.handle did._number inv.2
    did.ensures.same inv.1 did.ensures.did

pub returns-in-Did-clause-later : goal.returns-in-Did-clause-later
returns-in-Did-clause-later g c =
    let pool = c.args.pool.now in let mid = c.loop.seat in let new = c.pop_handle.new.seat in let did = c.in-Did in
    let inv = c.loop.invariant in
    later_same pool c.args.seat.now mid new inv.2 inv.1
    (later_noted pool mid new did.ensures.same inv.0 did.ensures.seat did.ensures.did (quiet_popped did.handle))

pub returns-in-Did-clause-own : goal.returns-in-Did-clause-own
returns-in-Did-clause-own g c =
    subst (λ (v : SeatView). IfSome c.in-Did.handle (λ h. h.lane ≡ lane_in v)) c.loop.invariant.1
    (own_handle c.args.pool.now c.pop_handle.new.seat c.in-Did.handle (lane_of c.loop.seat) c.in-Did.ensures.handle)

pub returns-in-Did-clause-reads : goal.returns-in-Did-clause-reads
returns-in-Did-clause-reads g c =
    λ size. (let did = c.in-Did in let new = c.pop_handle.new.seat in
    let shape = c.args.pool.now.table.layout.shape in
    subst (λ (v : SeatView). NotesOn (allot shape (lane_in v) size) (with_got shape (lane_in v) size did.handle) v
    (view_of new)) c.loop.invariant.1
    (handle_noted c.args.pool.now c.loop.seat new did.handle did._number did.ensures.did size))
