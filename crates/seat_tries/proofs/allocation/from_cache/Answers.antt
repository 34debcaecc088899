use Rattle.std.proofs.Common.{ℕ, ◌≤◌, sym, subst, arith, ◌∙◌, ap}
use Rattle.std.specs.Prelude.{Option, Some, None, IfSome, ◌≡◌, unwrap_or}
use Rattle.size_classes.specs.Sizes.{size_at}
use Rattle.pool_law.specs.Limits.{geometry_of}
use Rattle.pool_law.specs.declared.id.Region.{Region}
use Rattle.pool_law.specs.declared.note.Object.TheVariants.{Cache}
use Rattle.shared_pool.specs.Holding.{HoldsRegion}
use Rattle.shared_pool.specs.Notes.{hit, plain}
use Rattle.shared_pool.specs.SeatLanes.{lane_of}
use Rattle.shared_pool.specs.Seats.{IsNoted}
use Rattle.seat_work.specs.Answers.{hand_with, with_place}
use Rattle.seat_work.proofs.Calls.{hit_region, marked, popped_region}
use Rattle.seat_work.proofs.ClassLaws.{class_holds}
use Rattle.seat_work.proofs.Later.{later_busy, later_noted, quiet_hit}
use Rattle.seat_work.proofs.Proceeding.{works_after}
use Rattle.seat_tries.specs.Allocations.{allocated}
use Rattle.seat_tries.proofs.Goings.{goes_then, if_born_later, if_cause_on, works_less}
use Rattle.seat_tries.proofs.TriedNotes.{hit_then, missed_then, noted_lane, passed_then}
use Rattle.seat_tries.proofs.allocation.from_cache.Goals as goal

pub bear-requires-clause-works : goal.bear-requires-clause-works
bear-requires-clause-works c =
    let pool = c.args.pool.now in let old = c.args.seat.now in let mid = c.pop_cached.new.seat in
    let did = c.in-Did-default-Some in let place = c.args.handle.place in let works = c.requires.works in
    works_after pool (with_place place) (hand_with (Some place) (Some did.region)) 5 0 1 0 3 0 old mid works
    (popped_region pool old mid did.ensures.seat did._number (Some place) c.args.class (Some did.region)
    (works_less pool (with_place place) 5 0 1 0 old works (omega arith) (omega arith))
    (subst (λ (o : Option Region).
    IsNoted pool old mid (Cache (lane_of old) c.args.class) did._number (plain (hit o)))
    did.field-1-is did.ensures.did)).goes (omega arith) (omega arith)

pub bear-requires-clause-region : goal.bear-requires-clause-region
bear-requires-clause-region c =
    let pool = c.args.pool.now in let mid = c.pop_cached.new.seat in let did = c.in-Did-default-Some in
    let class = c.args.class in let lane = lane_of c.args.seat.now in
    (hit_region pool mid (Some did.region) lane class
    (subst (λ (o : Option Region). IfSome o (λ r.
    HoldsRegion pool mid r × (r.id.owner ≡ lane) × (r.id.class ≡ class)))
    did.field-1-is did.ensures.region)).0

pub bear-requires-clause-size : goal.bear-requires-clause-size
bear-requires-clause-size c =
    let pool = c.args.pool.now in let mid = c.pop_cached.new.seat in let did = c.in-Did-default-Some in
    let class = c.args.class in let lane = lane_of c.args.seat.now in
    let region = hit_region pool mid (Some did.region) lane class
    (subst (λ (o : Option Region). IfSome o (λ r.
    HoldsRegion pool mid r × (r.id.owner ≡ lane) × (r.id.class ≡ class)))
    did.field-1-is did.ensures.region) in
    subst (λ (k : ℕ). c.args.size ≤ size_at k) (sym region.1)
    (class_holds (geometry_of pool.table.layout.shape) c.args.size class c.requires.class)

pub returns-in-Did-default-Some-clause-goes : goal.returns-in-Did-default-Some-clause-goes
returns-in-Did-default-Some-clause-goes c =
    let pool = c.args.pool.now in let old = c.args.seat.now in let mid = c.pop_cached.new.seat in
    let did = c.in-Did-default-Some in let place = c.args.handle.place in let works = c.requires.works in
    let next = c.bear in
    goes_then pool (allocated next.result.0) (hand_with (Some place) (Some did.region)) 1 3 5 old mid next.new.seat
    next.result.1
    (later_noted pool old mid did.ensures.same works.seat did.ensures.seat did.ensures.did (quiet_hit _))
    (omega arith)
    (popped_region pool old mid did.ensures.seat did._number (Some place) c.args.class (Some did.region)
    (works_less pool (with_place place) 5 0 1 0 old works (omega arith) (omega arith))
    (subst (λ (o : Option Region).
    IsNoted pool old mid (Cache (lane_of old) c.args.class) did._number (plain (hit o)))
    did.field-1-is did.ensures.did)) next.ensures.goes

pub returns-in-Did-default-Some-clause-born : goal.returns-in-Did-default-Some-clause-born
returns-in-Did-default-Some-clause-born c =
    let pool = c.args.pool.now in let old = c.args.seat.now in let mid = c.pop_cached.new.seat in
    let did = c.in-Did-default-Some in
    if_born_later pool old mid c.bear.new.seat c.bear.result.0
    (later_noted pool old mid did.ensures.same c.requires.works.seat did.ensures.seat did.ensures.did (quiet_hit _))
    c.bear.ensures.born

pub returns-in-Did-default-Some-clause-cause : goal.returns-in-Did-default-Some-clause-cause
returns-in-Did-default-Some-clause-cause c =
    let pool = c.args.pool.now in let old = c.args.seat.now in let mid = c.pop_cached.new.seat in
    let did = c.in-Did-default-Some in
    if_cause_on pool old mid c.bear.new.seat c.args.handle.place c.bear.result.0
    (later_noted pool old mid did.ensures.same c.requires.works.seat did.ensures.seat did.ensures.did (quiet_hit _))
    c.bear.ensures.cause

-- the cache is passed by: it was empty
pub from_arena-requires-clause-works : goal.from_arena-requires-clause-works
from_arena-requires-clause-works c =
    let pool = c.args.pool.now in let old = c.args.seat.now in let mid = c.pop_cached.new.seat in
    let did = c.in-Did-default-None in let place = c.args.handle.place in let works = c.requires.works in
    works_after pool (with_place place) (with_place place) 5 0 1 0 4 0 old mid works
    (popped_region pool old mid did.ensures.seat did._number (Some place) c.args.class None
    (works_less pool (with_place place) 5 0 1 0 old works (omega arith) (omega arith))
    (subst (λ (o : Option Region).
    IsNoted pool old mid (Cache (lane_of old) c.args.class) did._number (plain (hit o)))
    did.field-1-is did.ensures.did)).goes (omega arith) (omega arith)

pub returns-in-Did-default-None-clause-goes : goal.returns-in-Did-default-None-clause-goes
returns-in-Did-default-None-clause-goes c =
    let pool = c.args.pool.now in let old = c.args.seat.now in let mid = c.pop_cached.new.seat in
    let did = c.in-Did-default-None in let place = c.args.handle.place in let works = c.requires.works in
    let next = c.from_arena in
    goes_then pool (allocated next.result.0) (with_place place) 1 4 5 old mid next.new.seat next.result.1
    (later_noted pool old mid did.ensures.same works.seat did.ensures.seat did.ensures.did (quiet_hit _))
    (omega arith)
    (popped_region pool old mid did.ensures.seat did._number (Some place) c.args.class None
    (works_less pool (with_place place) 5 0 1 0 old works (omega arith) (omega arith))
    (subst (λ (o : Option Region).
    IsNoted pool old mid (Cache (lane_of old) c.args.class) did._number (plain (hit o)))
    did.field-1-is did.ensures.did)) next.ensures.goes

pub returns-in-Did-default-None-clause-born : goal.returns-in-Did-default-None-clause-born
returns-in-Did-default-None-clause-born c =
    let pool = c.args.pool.now in let old = c.args.seat.now in let mid = c.pop_cached.new.seat in
    let did = c.in-Did-default-None in let next = c.from_arena in
    if_born_later pool old mid next.new.seat next.result.0
    (later_noted pool old mid did.ensures.same c.requires.works.seat did.ensures.seat did.ensures.did (quiet_hit _))
    next.ensures.born

pub returns-in-Did-default-None-clause-cause : goal.returns-in-Did-default-None-clause-cause
returns-in-Did-default-None-clause-cause c =
    let pool = c.args.pool.now in let old = c.args.seat.now in let mid = c.pop_cached.new.seat in
    let did = c.in-Did-default-None in let next = c.from_arena in
    if_cause_on pool old mid next.new.seat c.args.handle.place next.result.0
    (later_noted pool old mid did.ensures.same c.requires.works.seat did.ensures.seat did.ensures.did (quiet_hit _))
    next.ensures.cause

-- another seat was in it
pub from_arena-requires-in-Held-clause-works : goal.from_arena-requires-in-Held-clause-works
from_arena-requires-in-Held-clause-works c =
    let pool = c.args.pool.now in let old = c.args.seat.now in let mid = c.pop_cached.new.seat in
    let held = c.in-Held in let place = c.args.handle.place in let works = c.requires.works in
    works_after pool (with_place place) (with_place place) 5 0 1 0 4 0 old mid works
    (marked pool old mid held.ensures.seat (with_place place) (Cache (lane_of old) c.args.class) held._held
    (works_less pool (with_place place) 5 0 1 0 old works (omega arith) (omega arith)) held.ensures.held).goes
    (omega arith) (omega arith)

pub returns-in-Held-clause-goes : goal.returns-in-Held-clause-goes
returns-in-Held-clause-goes c =
    let pool = c.args.pool.now in let old = c.args.seat.now in let mid = c.pop_cached.new.seat in
    let held = c.in-Held in let place = c.args.handle.place in let works = c.requires.works in
    let next = c.from_arena-in-Held in
    goes_then pool (allocated next.result.0) (with_place place) 1 4 5 old mid next.new.seat next.result.1
    (later_busy pool old mid held.ensures.same works.seat held.ensures.seat (Cache (lane_of old) c.args.class)
    held._held held.ensures.held) (omega arith)
    (marked pool old mid held.ensures.seat (with_place place) (Cache (lane_of old) c.args.class) held._held
    (works_less pool (with_place place) 5 0 1 0 old works (omega arith) (omega arith)) held.ensures.held)
    next.ensures.goes

pub returns-in-Held-clause-born : goal.returns-in-Held-clause-born
returns-in-Held-clause-born c =
    let pool = c.args.pool.now in let old = c.args.seat.now in let mid = c.pop_cached.new.seat in
    let held = c.in-Held in let next = c.from_arena-in-Held in
    if_born_later pool old mid next.new.seat next.result.0
    (later_busy pool old mid held.ensures.same c.requires.works.seat held.ensures.seat
    (Cache (lane_of old) c.args.class) held._held held.ensures.held) next.ensures.born

pub returns-in-Held-clause-cause : goal.returns-in-Held-clause-cause
returns-in-Held-clause-cause c =
    let pool = c.args.pool.now in let old = c.args.seat.now in let mid = c.pop_cached.new.seat in
    let held = c.in-Held in let next = c.from_arena-in-Held in
    if_cause_on pool old mid next.new.seat c.args.handle.place next.result.0
    (later_busy pool old mid held.ensures.same c.requires.works.seat held.ensures.seat
    (Cache (lane_of old) c.args.class) held._held held.ensures.held) next.ensures.cause

pub returns-in-Did-default-Some-clause-allots : goal.returns-in-Did-default-Some-clause-allots
returns-in-Did-default-Some-clause-allots c =
    let a = c.args in let pool = a.pool.now in let old = a.seat.now in let mid = c.pop_cached.new.seat in
    let did = c.in-Did-default-Some in let lane = lane_of old in
    hit_then pool old mid c.bear.new.seat a.class a.size a.watch c.bear.result.0 c.bear.result.1 a.handle.place
    did._number c.requires.cached did.region
    (subst (λ (o : Option Region). IsNoted pool old mid (Cache lane a.class) did._number (plain (hit o)))
    did.field-1-is did.ensures.did)
    (subst (λ (o : Option Region). IfSome o (λ r.
    HoldsRegion pool mid r × (r.id.owner ≡ lane) × (r.id.class ≡ a.class)))
    did.field-1-is did.ensures.region).2 c.bear.ensures.allots

pub from_arena-requires-clause-own : goal.from_arena-requires-clause-own
from_arena-requires-clause-own c =
    let pool = c.args.pool.now in let old = c.args.seat.now in let mid = c.pop_cached.new.seat in
    let did = c.in-Did-default-None in
    c.requires.own ∙ sym (noted_lane pool old mid _ did._number _ did.ensures.did)

pub returns-in-Did-default-None-clause-allots : goal.returns-in-Did-default-None-clause-allots
returns-in-Did-default-None-clause-allots c =
    let a = c.args in let pool = a.pool.now in let old = a.seat.now in let mid = c.pop_cached.new.seat in
    let did = c.in-Did-default-None in let next = c.from_arena in
    missed_then pool old mid next.new.seat a.class a.size a.watch next.result.0 next.result.1 a.handle.place
    c.requires.cached did._number
    (subst (λ (o : Option Region). IsNoted pool old mid (Cache (lane_of old) a.class) did._number (plain (hit o)))
    did.field-1-is did.ensures.did) next.ensures.allots

pub from_arena-requires-in-Held-clause-own : goal.from_arena-requires-in-Held-clause-own
from_arena-requires-in-Held-clause-own c =
    c.requires.own ∙ sym (ap (λ m. unwrap_or m.0.own.number 0) c.in-Held.ensures.held.marked)

pub returns-in-Held-clause-allots : goal.returns-in-Held-clause-allots
returns-in-Held-clause-allots c =
    let a = c.args in let pool = a.pool.now in let old = a.seat.now in let mid = c.pop_cached.new.seat in
    let held = c.in-Held in let next = c.from_arena-in-Held in
    passed_then pool old mid next.new.seat a.class a.size a.watch next.result.0 next.result.1 a.handle.place
    c.requires.cached held._held held.ensures.held next.ensures.allots
