use Rattle.std.proofs.Common.{◌%◌, subst}
use Rattle.shared_pool.specs.SeatLanes.{lane_of}
use Rattle.std.specs.Prelude.{None, option_map}
use Rattle.seat_work.specs.Answers.{hand_with, region_told}
use Rattle.seat_work.proofs.Calls.{taken_region, took_region}
use Rattle.seat_work.proofs.Later.{later_same, later_noted, quiet_taken}
use Rattle.seat_work.proofs.Proceeding.{works_same, proceeds_same}
use Rattle.pool_law.specs.Patterns.{ask_arena}
use Rattle.pool_table.specs.declared.views.SeatView.{SeatView}
use Rattle.shared_pool.specs.SeatViews.{view_of}
use Rattle.seat_work.specs.Hands.{lane_in}
use Rattle.seat_work.specs.Readings.{NotesAs}
use Rattle.seat_work.proofs.RegionNotes.{take_noted}
use Rattle.seat_work.proofs.regions.take_region.Goals as goal

pub returns-in-Did-clause-proceeds : goal.returns-in-Did-clause-proceeds
returns-in-Did-clause-proceeds g c =
    let pool = c.args.pool.now in let old = c.args.seat.now in let mid = c.loop.seat in let did = c.in-Did in
    let new = c.take.new.seat in let inv = c.loop.invariant in
    let place = option_map (λ h. h.now.place) c.args.beside in
    proceeds_same pool (region_told did.region) (hand_with place did.region) 1 0 old mid new inv.1
    (took_region pool mid new did.ensures.seat did._number place (lane_of mid % pool.table.layout.shape.arenas)
    c.args.class did.region (works_same pool (hand_with place None) 1 0 old mid inv.0 inv.1 c.requires.works)
    did.ensures.did)

pub returns-in-Did-clause-region : goal.returns-in-Did-clause-region
returns-in-Did-clause-region g c =
    taken_region c.args.pool.now c.take.new.seat c.in-Did.region (lane_of c.loop.seat) c.args.class
    c.in-Did.ensures.region

pub returns-in-Did-clause-later : goal.returns-in-Did-clause-later
returns-in-Did-clause-later g c =
    let pool = c.args.pool.now in let mid = c.loop.seat in let new = c.take.new.seat in let did = c.in-Did in
    let inv = c.loop.invariant in
    later_same pool c.args.seat.now mid new inv.2 inv.1
    (later_noted pool mid new did.ensures.same inv.0 did.ensures.seat did.ensures.did
    (quiet_taken c.args.class did.region))

pub returns-in-Did-clause-reads : goal.returns-in-Did-clause-reads
returns-in-Did-clause-reads g c =
    let did = c.in-Did in let new = c.take.new.seat in
    subst (λ (v : SeatView).
    NotesAs (ask_arena c.args.pool.now.table.layout.shape (lane_in v) c.args.class) (option_map (λ r. r.id) did.region)
    v (view_of new)) c.loop.invariant.1
    (take_noted c.args.pool.now c.loop.seat new c.args.class did.region did._number did.ensures.did)
