use Rattle.std.proofs.Common.{ℕ, ◌≤◌, ◌%◌, sym, ap, subst, arith}
use Rattle.std.specs.Prelude.{Option, Some, None, IfSome, ◌≡◌}
use Rattle.size_classes.specs.Sizes.{size_at}
use Rattle.pool_arena.specs.Standing.{taken_or_full}
use Rattle.pool_law.specs.Limits.{geometry_of}
use Rattle.pool_law.specs.declared.id.Region.{Region}
use Rattle.pool_law.specs.declared.note.Object.TheVariants.{Arena}
use Rattle.shared_pool.specs.Holding.{HoldsRegion}
use Rattle.shared_pool.specs.Notes.{plain}
use Rattle.shared_pool.specs.SeatLanes.{lane_of}
use Rattle.shared_pool.specs.Seats.{IsNoted}
use Rattle.seat_work.specs.Answers.{hand_with, region_told, with_place}
use Rattle.seat_work.specs.Changes.{no_change}
use Rattle.seat_work.proofs.Calls.{taken_region, took_region}
use Rattle.seat_work.proofs.ClassLaws.{class_holds, class_inside}
use Rattle.seat_work.proofs.Later.{later_has, later_noted, quiet_taken}
use Rattle.seat_work.proofs.Proceeding.{proceeds_none, works_after, works_same}
use Rattle.seat_tries.specs.Allocations.{allocated}
use Rattle.seat_tries.proofs.Goings.{goes_first, goes_then, if_born_later, if_cause_on, meets, meets_then, works_less}
use Rattle.seat_tries.proofs.TriedNotes.{full_then, taken_then}
use Rattle.seat_tries.proofs.allocation.from_arena.Goals as goal

pub take-requires-clause-class : goal.take-requires-clause-class
take-requires-clause-class c =
    class_inside (geometry_of c.args.pool.now.table.layout.shape) c.args.size c.args.class c.requires.class

-- the region of the arena came, or it was full
pub bear-requires-clause-works : goal.bear-requires-clause-works
bear-requires-clause-works c =
    let pool = c.args.pool.now in let old = c.args.seat.now in let mid = c.take.new.seat in
    let did = c.in-Did-default-Some in let place = c.args.handle.place in let works = c.requires.works in
    works_after pool (with_place place) (hand_with (Some place) (Some did.region)) 4 0 1 0 3 0 old mid works
    (took_region pool old mid did.ensures.seat did._number (Some place) (lane_of old % pool.table.layout.shape.arenas)
    c.args.class (Some did.region) (works_less pool (with_place place) 4 0 1 0 old works (omega arith) (omega arith))
    (subst (λ (o : Option Region).
    IsNoted pool old mid (Arena (lane_of old % pool.table.layout.shape.arenas)) did._number
    (plain (taken_or_full c.args.class o))) did.field-1-is did.ensures.did)).goes (omega arith) (omega arith)

pub bear-requires-clause-region : goal.bear-requires-clause-region
bear-requires-clause-region c =
    let pool = c.args.pool.now in let mid = c.take.new.seat in let did = c.in-Did-default-Some in
    let class = c.args.class in let lane = lane_of c.args.seat.now in
    (taken_region pool mid (Some did.region) lane class
    (subst (λ (o : Option Region). IfSome o (λ r.
    HoldsRegion pool mid r × (r.id.owner ≡ lane) × (r.id.class ≡ class) × (r.id.uses ≡ 0)))
    did.field-1-is did.ensures.region)).0

pub bear-requires-clause-size : goal.bear-requires-clause-size
bear-requires-clause-size c =
    let pool = c.args.pool.now in let mid = c.take.new.seat in let did = c.in-Did-default-Some in
    let class = c.args.class in let lane = lane_of c.args.seat.now in
    let region = taken_region pool mid (Some did.region) lane class
    (subst (λ (o : Option Region). IfSome o (λ r.
    HoldsRegion pool mid r × (r.id.owner ≡ lane) × (r.id.class ≡ class) × (r.id.uses ≡ 0)))
    did.field-1-is did.ensures.region) in
    subst (λ (k : ℕ). c.args.size ≤ size_at k) (sym region.1)
    (class_holds (geometry_of pool.table.layout.shape) c.args.size class c.requires.class)

pub returns-in-Did-default-Some-clause-goes : goal.returns-in-Did-default-Some-clause-goes
returns-in-Did-default-Some-clause-goes c =
    let pool = c.args.pool.now in let old = c.args.seat.now in let mid = c.take.new.seat in
    let did = c.in-Did-default-Some in let place = c.args.handle.place in let works = c.requires.works in
    let bear = c.bear in
    goes_then pool (allocated bear.result.0) (hand_with (Some place) (Some did.region)) 1 3 4 old mid bear.new.seat
    bear.result.1
    (later_noted pool old mid did.ensures.same works.seat did.ensures.seat did.ensures.did
    (quiet_taken c.args.class _)) (omega arith)
    (took_region pool old mid did.ensures.seat did._number (Some place) (lane_of old % pool.table.layout.shape.arenas)
    c.args.class (Some did.region) (works_less pool (with_place place) 4 0 1 0 old works (omega arith) (omega arith))
    (subst (λ (o : Option Region).
    IsNoted pool old mid (Arena (lane_of old % pool.table.layout.shape.arenas)) did._number
    (plain (taken_or_full c.args.class o))) did.field-1-is did.ensures.did)) bear.ensures.goes

pub returns-in-Did-default-Some-clause-born : goal.returns-in-Did-default-Some-clause-born
returns-in-Did-default-Some-clause-born c =
    let pool = c.args.pool.now in let old = c.args.seat.now in let mid = c.take.new.seat in
    let did = c.in-Did-default-Some in
    if_born_later pool old mid c.bear.new.seat c.bear.result.0
    (later_noted pool old mid did.ensures.same c.requires.works.seat did.ensures.seat did.ensures.did
    (quiet_taken c.args.class _)) c.bear.ensures.born

pub returns-in-Did-default-Some-clause-cause : goal.returns-in-Did-default-Some-clause-cause
returns-in-Did-default-Some-clause-cause c =
    let pool = c.args.pool.now in let old = c.args.seat.now in let mid = c.take.new.seat in
    let did = c.in-Did-default-Some in
    if_cause_on pool old mid c.bear.new.seat c.args.handle.place c.bear.result.0
    (later_noted pool old mid did.ensures.same c.requires.works.seat did.ensures.seat did.ensures.did
    (quiet_taken c.args.class _)) c.bear.ensures.cause

pub put_handle-requires-clause-works : goal.put_handle-requires-clause-works
put_handle-requires-clause-works c =
    let pool = c.args.pool.now in let old = c.args.seat.now in let mid = c.take.new.seat in
    let did = c.in-Did-default-None in let place = c.args.handle.place in let works = c.requires.works in
    works_after pool (with_place place) (with_place place) 4 0 1 0 1 0 old mid works
    (took_region pool old mid did.ensures.seat did._number (Some place) (lane_of old % pool.table.layout.shape.arenas)
    c.args.class None (works_less pool (with_place place) 4 0 1 0 old works (omega arith) (omega arith))
    (subst (λ (o : Option Region).
    IsNoted pool old mid (Arena (lane_of old % pool.table.layout.shape.arenas)) did._number
    (plain (taken_or_full c.args.class o))) did.field-1-is did.ensures.did)).goes (omega arith) (omega arith)

pub returns-in-Did-default-None-clause-goes : goal.returns-in-Did-default-None-clause-goes
returns-in-Did-default-None-clause-goes c =
    let pool = c.args.pool.now in let old = c.args.seat.now in let mid = c.take.new.seat in
    let did = c.in-Did-default-None in let place = c.args.handle.place in let works = c.requires.works in
    let call = c.put_handle in
    goes_first pool (region_told None) (with_place place) 1 1 4 old mid call.new.seat call.result
    (later_noted pool old mid did.ensures.same works.seat did.ensures.seat did.ensures.did
    (quiet_taken c.args.class _)) (omega arith)
    (took_region pool old mid did.ensures.seat did._number (Some place) (lane_of old % pool.table.layout.shape.arenas)
    c.args.class None (works_less pool (with_place place) 4 0 1 0 old works (omega arith) (omega arith))
    (subst (λ (o : Option Region).
    IsNoted pool old mid (Arena (lane_of old % pool.table.layout.shape.arenas)) did._number
    (plain (taken_or_full c.args.class o))) did.field-1-is did.ensures.did)) call.ensures.goes

pub put_handle-requires-in-Held-clause-works : goal.put_handle-requires-in-Held-clause-works
put_handle-requires-in-Held-clause-works c =
    let pool = c.args.pool.now in let old = c.args.seat.now in let mid = c.take.new.seat in
    let held = c.in-Held in let place = c.args.handle.place in
    works_same pool (with_place place) 1 0 old mid held.ensures.seat (ap (λ m. m.0) held.ensures.held.marked)
    (works_less pool (with_place place) 4 0 1 0 old c.requires.works (omega arith) (omega arith))

pub returns-in-Held-clause-goes : goal.returns-in-Held-clause-goes
returns-in-Held-clause-goes c =
    let pool = c.args.pool.now in let old = c.args.seat.now in let mid = c.take.new.seat in
    let held = c.in-Held in let place = c.args.handle.place in let works = c.requires.works in
    let call = c.put_handle-in-Held in
    goes_then pool no_change (with_place place) 0 1 4 old mid call.new.seat call.result
    (later_has pool old mid held.ensures.same works.seat held.ensures.seat held.ensures.held.marked) (omega arith)
    (proceeds_none pool (with_place place) 4 0 0 0 old mid works held.ensures.seat held.ensures.held.marked)
    call.ensures.goes

pub returns-in-Held-clause-cause : goal.returns-in-Held-clause-cause
returns-in-Held-clause-cause c =
    let pool = c.args.pool.now in let old = c.args.seat.now in let mid = c.take.new.seat in let held = c.in-Held in
    let call = c.put_handle-in-Held in
    meets_then pool old mid call.new.seat
    (meets pool old mid (Arena (lane_of old % pool.table.layout.shape.arenas)) held._held c.requires.works.seat
    held.ensures.seat held.ensures.held) call.ensures.goes.later

pub returns-in-Did-default-Some-clause-allots : goal.returns-in-Did-default-Some-clause-allots
returns-in-Did-default-Some-clause-allots c =
    let a = c.args in let pool = a.pool.now in let old = a.seat.now in let mid = c.take.new.seat in
    let did = c.in-Did-default-Some in let lane = lane_of old in
    taken_then pool old mid c.bear.new.seat a.class a.size a.watch c.bear.result.0 c.bear.result.1 a.handle.place
    did._number did.region
    (subst (λ (o : Option Region).
    IsNoted pool old mid (Arena (lane % pool.table.layout.shape.arenas)) did._number (plain (taken_or_full a.class o)))
    did.field-1-is did.ensures.did)
    (taken_region pool mid (Some did.region) lane a.class
    (subst (λ (o : Option Region). IfSome o (λ r.
    HoldsRegion pool mid r × (r.id.owner ≡ lane) × (r.id.class ≡ a.class) × (r.id.uses ≡ 0)))
    did.field-1-is did.ensures.region)).1 c.bear.ensures.allots

pub returns-in-Did-default-None-clause-allots : goal.returns-in-Did-default-None-clause-allots
returns-in-Did-default-None-clause-allots c =
    let a = c.args in let pool = a.pool.now in let old = a.seat.now in let mid = c.take.new.seat in
    let did = c.in-Did-default-None in let call = c.put_handle in
    full_then pool old mid call.new.seat a.class a.size did._number a.handle call.result c.requires.own
    (subst (λ (o : Option Region).
    IsNoted pool old mid (Arena (lane_of old % pool.table.layout.shape.arenas)) did._number
    (plain (taken_or_full a.class o))) did.field-1-is did.ensures.did) call.ensures.reads
