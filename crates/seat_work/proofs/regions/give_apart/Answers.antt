use Rattle.std.proofs.Common.{refl, sym, subst}
use Rattle.pool_law.specs.declared.id.Region.{Region}
use Rattle.shared_pool.specs.Holding.{HoldsRegion}
use Rattle.std.specs.Prelude.{None, Some, option_map}
use Rattle.seat_work.specs.Answers.{hand_with}
use Rattle.seat_work.specs.Changes.{no_change}
use Rattle.seat_work.specs.Works.{Works}
use Rattle.seat_work.proofs.Calls.{gave_region}
use Rattle.seat_work.proofs.Holds.{holds_region, region_stays}
use Rattle.seat_work.proofs.Later.{later_same, later_noted}
use Rattle.seat_work.proofs.Proceeding.{works_same, proceeds_same}
use Rattle.pool_law.specs.Patterns.{give_back}
use Rattle.pool_table.specs.declared.views.SeatView.{SeatView}
use Rattle.shared_pool.specs.SeatViews.{view_of}
use Rattle.seat_work.specs.Readings.{NotesAs}
use Rattle.seat_work.proofs.RegionNotes.{give_noted}
use Rattle.seat_work.proofs.regions.give_apart.Goals as goal

pub give-requires-clause-region : goal.give-requires-clause-region
give-requires-clause-region g c =
    let pool = c.args.pool.now in let old = c.args.seat.now in let mid = c.loop.seat in let inv = c.loop.invariant in
    let own = c.args.own in let hand = hand_with (option_map (λ h. h.now.place) c.args.beside) (Some own) in
    let works = works_same pool hand 1 0 old mid inv.0 inv.1 c.requires.works in
    subst (λ (r : Region). HoldsRegion pool mid r) (sym inv.2)
    (holds_region pool mid hand own works.held
    (region_stays pool old mid own (λ i. (inv.1 i).setting) c.requires.region))

pub returns-in-Did-clause-proceeds : goal.returns-in-Did-clause-proceeds
returns-in-Did-clause-proceeds g c =
    let pool = c.args.pool.now in let old = c.args.seat.now in let mid = c.loop.seat in let did = c.in-Did in
    let new = c.give.new.seat in let inv = c.loop.invariant in let own = c.args.own in
    let place = option_map (λ h. h.now.place) c.args.beside in
    let works = works_same pool (hand_with place (Some own)) 1 0 old mid inv.0 inv.1 c.requires.works in
    proceeds_same pool no_change (hand_with place None) 1 0 old mid new inv.1
    (gave_region pool mid new did.ensures.seat did._number place c.loop.region
    (subst (λ (r : Region). Works pool (hand_with place (Some r)) 1 0 mid) (sym inv.2) works) did.ensures.did)

pub returns-in-Did-clause-later : goal.returns-in-Did-clause-later
returns-in-Did-clause-later g c =
    let pool = c.args.pool.now in let mid = c.loop.seat in let new = c.give.new.seat in let did = c.in-Did in
    let inv = c.loop.invariant in
    later_same pool c.args.seat.now mid new inv.3 inv.1
    (later_noted pool mid new did.ensures.same inv.0 did.ensures.seat did.ensures.did refl)

pub returns-in-Did-clause-reads : goal.returns-in-Did-clause-reads
returns-in-Did-clause-reads g c =
    let did = c.in-Did in let new = c.give.new.seat in let inv = c.loop.invariant in
    subst (λ (r : Region). NotesAs (give_back r.id) tt (view_of c.args.seat.now) (view_of new)) inv.2
    (subst (λ (v : SeatView). NotesAs (give_back c.loop.region.id) tt v (view_of new)) inv.1
    (give_noted c.args.pool.now c.loop.seat new c.loop.region.id did._number did.ensures.did))
