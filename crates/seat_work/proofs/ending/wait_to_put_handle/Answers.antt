use Rattle.std.proofs.Common.{refl, sym, subst}
use Rattle.handle_bin.specs.Bins.{HandleValue}
use Rattle.shared_pool.specs.Holding.{HoldsHandle}
use Rattle.seat_work.specs.Answers.{with_place}
use Rattle.seat_work.specs.Changes.{no_change}
use Rattle.seat_work.specs.Hands.{empty_hand}
use Rattle.seat_work.specs.Works.{Works}
use Rattle.seat_work.proofs.Calls.{handle_home}
use Rattle.seat_work.proofs.Holds.{holds_handle}
use Rattle.seat_work.proofs.Later.{later_same, later_noted}
use Rattle.seat_work.proofs.Proceeding.{works_same, proceeds_same}
use Rattle.pool_law.specs.declared.note.Object.TheVariants.{Bin}
use Rattle.pool_law.specs.Dids as says
use Rattle.pool_law.specs.Readers.{note}
use Rattle.pool_table.specs.declared.views.SeatView.{SeatView}
use Rattle.shared_pool.specs.SeatViews.{view_of}
use Rattle.seat_work.specs.Readings.{NotesAs}
use Rattle.seat_work.proofs.Handles.{home_noted}
use Rattle.seat_work.proofs.ending.wait_to_put_handle.Goals as goal

pub put_handle-requires-clause-handle : goal.put_handle-requires-clause-handle
put_handle-requires-clause-handle g c =
    let pool = c.args.pool.now in let mid = c.loop.seat in let inv = c.loop.invariant in let own = c.args.own in
    let works = works_same pool (with_place own.place) 1 0 c.args.seat.now mid inv.0 inv.1 c.requires.works in
    subst (λ (h : HandleValue). HoldsHandle pool mid h) (sym inv.2)
    (holds_handle pool mid (with_place own.place) own works.held c.requires.handle)

pub returns-in-Did-clause-proceeds : goal.returns-in-Did-clause-proceeds
returns-in-Did-clause-proceeds g c =
    let pool = c.args.pool.now in let old = c.args.seat.now in let mid = c.loop.seat in let did = c.in-Did in
    let new = c.put_handle.new.seat in let inv = c.loop.invariant in let own = c.args.own in
    let works = works_same pool (with_place own.place) 1 0 old mid inv.0 inv.1 c.requires.works in
    proceeds_same pool no_change empty_hand 1 0 old mid new inv.1
    (handle_home pool mid new did.ensures.seat did._number c.loop.handle
    (subst (λ (h : HandleValue). Works pool (with_place h.place) 1 0 mid) (sym inv.2) works) did.ensures.did)

pub returns-in-Did-clause-later : goal.returns-in-Did-clause-later
returns-in-Did-clause-later g c =
    let pool = c.args.pool.now in let mid = c.loop.seat in let new = c.put_handle.new.seat in let did = c.in-Did in
    let inv = c.loop.invariant in
    later_same pool c.args.seat.now mid new inv.3 inv.1
    (later_noted pool mid new did.ensures.same inv.0 did.ensures.seat did.ensures.did refl)

pub returns-in-Did-clause-reads : goal.returns-in-Did-clause-reads
returns-in-Did-clause-reads g c =
    let new = c.put_handle.new.seat in let inv = c.loop.invariant in let h = c.loop.handle in
    subst (λ (h : HandleValue).
    NotesAs (note (Bin h.lane) (says.home h.place)) tt (view_of c.args.seat.now) (view_of new)) inv.2
    (subst (λ (v : SeatView). NotesAs (note (Bin h.lane) (says.home h.place)) tt v (view_of new)) inv.1
    (home_noted c.args.pool.now c.loop.seat new h c.in-Did._number c.in-Did.ensures.did))
