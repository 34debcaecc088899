use Rattle.std.proofs.Common.{Some, refl, ◌∙◌, arith}
use Rattle.pool_law.specs.declared.note.Did.TheVariants.{Give}
use Rattle.pool_law.specs.declared.note.Object.TheVariants.{Arena}
use Rattle.shared_pool.specs.Notes.{plain}
use Rattle.seat_work.specs.Answers.{with_both, with_place}
use Rattle.seat_work.specs.Changes.{no_change}
use Rattle.seat_work.proofs.Calls.{gave_region}
use Rattle.seat_work.proofs.Holds.{holds_region}
use Rattle.seat_work.proofs.Later.{later_noted}
use Rattle.seat_work.proofs.Proceeding.{works_after}
use Rattle.seat_tries.proofs.Goings.{goes_then, leaves_both, works_less}
use Rattle.seat_tries.proofs.Takings.{met_taken, noted_taken}
use Rattle.seat_tries.proofs.begun.give_region.Goals as goal

pub give-requires-clause-region : goal.give-requires-clause-region
give-requires-clause-region c =
    let own = c.args.own in
    holds_region c.args.pool.now c.args.seat.now (with_both c.args.handle.place own.id) own c.requires.works.held
    c.requires.region

pub put_handle-requires-clause-works : goal.put_handle-requires-clause-works
put_handle-requires-clause-works c =
    let pool = c.args.pool.now in let old = c.args.seat.now in let mid = c.give.new.seat in let did = c.in-Did in
    let place = c.args.handle.place in let own = c.args.own in let works = c.requires.works in
    works_after pool (with_both place own.id) (with_place place) 2 0 1 0 1 0 old mid works
    (gave_region pool old mid did.ensures.seat did._number (Some place) own
    (works_less pool (with_both place own.id) 2 0 1 0 old works (omega arith) (omega arith)) did.ensures.did).goes
    (omega arith) (omega arith)

pub returns-in-Did-clause-goes : goal.returns-in-Did-clause-goes
returns-in-Did-clause-goes c =
    let pool = c.args.pool.now in let old = c.args.seat.now in let mid = c.give.new.seat in let did = c.in-Did in
    let place = c.args.handle.place in let own = c.args.own in let works = c.requires.works in
    goes_then pool no_change (with_place place) 1 1 2 old mid c.put_handle.new.seat c.put_handle.result
    (later_noted pool old mid did.ensures.same works.seat did.ensures.seat did.ensures.did refl) (omega arith)
    (gave_region pool old mid did.ensures.seat did._number (Some place) own
    (works_less pool (with_both place own.id) 2 0 1 0 old works (omega arith) (omega arith)) did.ensures.did)
    c.put_handle.ensures.goes

pub returns-in-Held-clause-goes : goal.returns-in-Held-clause-goes
returns-in-Held-clause-goes c =
    let held = c.in-Held in let own = c.args.own in let found = held.ensures.held in
    leaves_both c.args.pool.now c.args.seat.now c.give.new.seat (Arena own.id.place.arena) held._held
    held.ensures.same held.ensures.seat found.1 c.args.handle own held.region 2 (omega arith) c.requires.works
    c.requires.handle c.requires.region found.0

pub returns-in-Did-clause-took : goal.returns-in-Did-clause-took
returns-in-Did-clause-took c =
    let did = c.in-Did in let id = c.args.own.id in
    c.put_handle.ensures.took
    ∙ noted_taken c.args.pool.now c.args.seat.now c.give.new.seat (Arena id.place.arena) did._number (plain (Give id))
    refl did.ensures.did

pub returns-in-Held-clause-took : goal.returns-in-Held-clause-took
returns-in-Held-clause-took c =
    let held = c.in-Held in
    met_taken c.args.pool.now c.args.seat.now c.give.new.seat (Arena c.args.own.id.place.arena) held._held
    held.ensures.held.1
