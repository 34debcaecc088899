use Rattle.std.proofs.Common.{ℕ, ◌≤◌, refl, sym, ap, subst, arith}
use Rattle.std.specs.Prelude.{Option, Some, None, IfSome, ◌≡◌, unwrap_or}
use Rattle.size_classes.specs.Sizes.{size_at}
use Rattle.pool_law.specs.Limits.{geometry_of}
use Rattle.pool_law.specs.declared.id.Region.{Region}
use Rattle.pool_law.specs.declared.note.Object.TheVariants.{Cache}
use Rattle.shared_pool.specs.Holding.{HoldsRegion}
use Rattle.shared_pool.specs.Notes.{hit, plain}
use Rattle.shared_pool.specs.SeatLanes.{lane_of}
use Rattle.shared_pool.specs.Seats.{IsNoted}
use Rattle.shared_pool.specs.SeatViews.{view_of}
use Rattle.seat_work.specs.Answers.{hand_with}
use Rattle.seat_work.specs.Changes.{no_change}
use Rattle.seat_work.specs.Hands.{empty_hand}
use Rattle.seat_work.proofs.Calls.{hit_region, marked, popped_region}
use Rattle.seat_work.proofs.ClassLaws.{class_holds}
use Rattle.seat_work.proofs.Counting.{still_counts}
use Rattle.seat_work.proofs.Later.{later_busy, later_but, later_noted, quiet_hit}
use Rattle.seat_work.proofs.Proceeding.{works_after}
use Rattle.seat_tries.proofs.Goings.{works_less}
use Rattle.pool_member.proofs.Asking.{asks_then}
use Rattle.pool_law.specs.Patterns.{grow_with, obtain}
use Rattle.pool_law.specs.Readers.{give}
use Rattle.seat_work.specs.Regrowths.{grow_over}
use Rattle.seat_work.proofs.Noting.{notes_then}
use Rattle.seat_work.proofs.RegionNotes.{hit_noted, obtain_noted, passed_by}
use Rattle.seat_tries.proofs.TriedNotes.{noted_lane}
use Rattle.pool_member.proofs.Asked.{past_on, regrows_on}
use Rattle.pool_member.proofs.work.attempted.from_cache.Goals as goal

pub move_into-requires-clause-works : goal.move_into-requires-clause-works
move_into-requires-clause-works c =
    let pool = c.args.pool.now in let old = c.args.seat.now in let mid = c.pop_cached.new.seat in
    let did = c.in-Did-default-Some in let works = c.requires.works in
    works_after pool empty_hand (hand_with None (Some did.region)) 5 0 1 0 3 0 old mid works
    (popped_region pool old mid did.ensures.seat did._number None c.args.class (Some did.region)
    (works_less pool empty_hand 5 0 1 0 old works (omega arith) (omega arith))
    (subst (λ (o : Option Region). IsNoted pool old mid (Cache (lane_of old) c.args.class) did._number (plain (hit o)))
    did.field-1-is did.ensures.did)).goes (omega arith) (omega arith)

pub move_into-requires-clause-counts : goal.move_into-requires-clause-counts
move_into-requires-clause-counts c =
    let pool = c.args.pool.now in let old = c.args.seat.now in let mid = c.pop_cached.new.seat in
    let did = c.in-Did-default-Some in let works = c.requires.works in
    still_counts no_change (view_of old) (view_of mid) c.args.root refl
    (popped_region pool old mid did.ensures.seat did._number None c.args.class (Some did.region)
    (works_less pool empty_hand 5 0 1 0 old works (omega arith) (omega arith))
    (subst (λ (o : Option Region). IsNoted pool old mid (Cache (lane_of old) c.args.class) did._number (plain (hit o)))
    did.field-1-is did.ensures.did)).changes c.requires.counts

pub move_into-requires-clause-region : goal.move_into-requires-clause-region
move_into-requires-clause-region c =
    let pool = c.args.pool.now in let mid = c.pop_cached.new.seat in let did = c.in-Did-default-Some in
    let class = c.args.class in let lane = lane_of c.args.seat.now in
    (hit_region pool mid (Some did.region) lane class
    (subst (λ (o : Option Region). IfSome o (λ r.
    HoldsRegion pool mid r × (r.id.owner ≡ lane) × (r.id.class ≡ class)))
    did.field-1-is did.ensures.region)).0

pub move_into-requires-clause-long : goal.move_into-requires-clause-long
move_into-requires-clause-long c =
    let pool = c.args.pool.now in let mid = c.pop_cached.new.seat in let did = c.in-Did-default-Some in
    let class = c.args.class in let lane = lane_of c.args.seat.now in
    let region = hit_region pool mid (Some did.region) lane class
    (subst (λ (o : Option Region). IfSome o (λ r.
    HoldsRegion pool mid r × (r.id.owner ≡ lane) × (r.id.class ≡ class)))
    did.field-1-is did.ensures.region) in
    subst (λ (k : ℕ). c.args.size ≤ size_at k) (sym region.1)
    (class_holds (geometry_of pool.table.layout.shape) c.args.size class c.requires.class)

pub returns-in-Did-default-Some-clause-asks : goal.returns-in-Did-default-Some-clause-asks
returns-in-Did-default-Some-clause-asks c =
    let pool = c.args.pool.now in let old = c.args.seat.now in let mid = c.pop_cached.new.seat in
    let did = c.in-Did-default-Some in let works = c.requires.works in let next = c.move_into in
    asks_then pool c.args.root c.args.size (hand_with None (Some did.region)) 1 3 5 old mid next.new.seat
    next.result.0 next.result.1
    (later_but pool c.args.root old mid
    (later_noted pool old mid did.ensures.same works.seat did.ensures.seat did.ensures.did (quiet_hit _)))
    (omega arith)
    (popped_region pool old mid did.ensures.seat did._number None c.args.class (Some did.region)
    (works_less pool empty_hand 5 0 1 0 old works (omega arith) (omega arith))
    (subst (λ (o : Option Region). IsNoted pool old mid (Cache (lane_of old) c.args.class) did._number (plain (hit o)))
    did.field-1-is did.ensures.did)) next.ensures.asks

-- the cache is passed by: it was empty
pub from_arena-requires-clause-works : goal.from_arena-requires-clause-works
from_arena-requires-clause-works c =
    let pool = c.args.pool.now in let old = c.args.seat.now in let mid = c.pop_cached.new.seat in
    let did = c.in-Did-default-None in let works = c.requires.works in
    works_after pool empty_hand empty_hand 5 0 1 0 4 0 old mid works
    (popped_region pool old mid did.ensures.seat did._number None c.args.class None
    (works_less pool empty_hand 5 0 1 0 old works (omega arith) (omega arith))
    (subst (λ (o : Option Region). IsNoted pool old mid (Cache (lane_of old) c.args.class) did._number (plain (hit o)))
    did.field-1-is did.ensures.did)).goes (omega arith) (omega arith)

pub from_arena-requires-clause-counts : goal.from_arena-requires-clause-counts
from_arena-requires-clause-counts c =
    let pool = c.args.pool.now in let old = c.args.seat.now in let mid = c.pop_cached.new.seat in
    let did = c.in-Did-default-None in let works = c.requires.works in
    still_counts no_change (view_of old) (view_of mid) c.args.root refl
    (popped_region pool old mid did.ensures.seat did._number None c.args.class None
    (works_less pool empty_hand 5 0 1 0 old works (omega arith) (omega arith))
    (subst (λ (o : Option Region). IsNoted pool old mid (Cache (lane_of old) c.args.class) did._number (plain (hit o)))
    did.field-1-is did.ensures.did)).changes c.requires.counts

pub returns-in-Did-default-None-clause-asks : goal.returns-in-Did-default-None-clause-asks
returns-in-Did-default-None-clause-asks c =
    let pool = c.args.pool.now in let old = c.args.seat.now in let mid = c.pop_cached.new.seat in
    let did = c.in-Did-default-None in let works = c.requires.works in let next = c.from_arena in
    asks_then pool c.args.root c.args.size empty_hand 1 4 5 old mid next.new.seat next.result.0 next.result.1
    (later_but pool c.args.root old mid
    (later_noted pool old mid did.ensures.same works.seat did.ensures.seat did.ensures.did (quiet_hit _)))
    (omega arith)
    (popped_region pool old mid did.ensures.seat did._number None c.args.class None
    (works_less pool empty_hand 5 0 1 0 old works (omega arith) (omega arith))
    (subst (λ (o : Option Region). IsNoted pool old mid (Cache (lane_of old) c.args.class) did._number (plain (hit o)))
    did.field-1-is did.ensures.did)) next.ensures.asks

-- and another seat was in it
pub from_arena-requires-in-Held-clause-works : goal.from_arena-requires-in-Held-clause-works
from_arena-requires-in-Held-clause-works c =
    let pool = c.args.pool.now in let old = c.args.seat.now in let mid = c.pop_cached.new.seat in
    let held = c.in-Held in let works = c.requires.works in
    works_after pool empty_hand empty_hand 5 0 1 0 4 0 old mid works
    (marked pool old mid held.ensures.seat empty_hand (Cache (lane_of old) c.args.class) held._held
    (works_less pool empty_hand 5 0 1 0 old works (omega arith) (omega arith)) held.ensures.held).goes
    (omega arith) (omega arith)

pub from_arena-requires-in-Held-clause-counts : goal.from_arena-requires-in-Held-clause-counts
from_arena-requires-in-Held-clause-counts c =
    let pool = c.args.pool.now in let old = c.args.seat.now in let mid = c.pop_cached.new.seat in
    let held = c.in-Held in let works = c.requires.works in
    still_counts no_change (view_of old) (view_of mid) c.args.root refl
    (marked pool old mid held.ensures.seat empty_hand (Cache (lane_of old) c.args.class) held._held
    (works_less pool empty_hand 5 0 1 0 old works (omega arith) (omega arith)) held.ensures.held).changes
    c.requires.counts

pub returns-in-Held-clause-asks : goal.returns-in-Held-clause-asks
returns-in-Held-clause-asks c =
    let pool = c.args.pool.now in let old = c.args.seat.now in let mid = c.pop_cached.new.seat in
    let held = c.in-Held in let works = c.requires.works in let next = c.from_arena-in-Held in
    asks_then pool c.args.root c.args.size empty_hand 1 4 5 old mid next.new.seat next.result.0 next.result.1
    (later_but pool c.args.root old mid
    (later_busy pool old mid held.ensures.same works.seat held.ensures.seat (Cache (lane_of old) c.args.class)
    held._held held.ensures.held)) (omega arith)
    (marked pool old mid held.ensures.seat empty_hand (Cache (lane_of old) c.args.class) held._held
    (works_less pool empty_hand 5 0 1 0 old works (omega arith) (omega arith)) held.ensures.held) next.ensures.asks

-- ---- What the law reads of it.

pub returns-in-Did-default-Some-clause-reads : goal.returns-in-Did-default-Some-clause-reads
returns-in-Did-default-Some-clause-reads c =
    let a = c.args in let pool = a.pool.now in let old = a.seat.now in let mid = c.pop_cached.new.seat in
    let did = c.in-Did-default-Some in let next = c.move_into in let shape = pool.table.layout.shape in
    let lane = lane_of old in let id = did.region.id in let grows = grow_with a.root a.size in
    regrows_on (grow_over shape lane a.class a.root a.size) (grows (Some id)) next.result.1 (view_of old) (view_of mid)
    (view_of next.new.seat) next.result.0
    (notes_then (obtain shape lane a.class) (give (Some id)) (view_of old) (view_of mid) grows
    (obtain_noted shape lane a.class c.requires.cached (Some id) (view_of old) (view_of mid)
    (hit_noted pool old mid a.class (Some did.region) did._number
    (subst (λ (o : Option Region). IsNoted pool old mid (Cache lane a.class) did._number (plain (hit o))) did.field-1-is
    did.ensures.did)))) next.ensures.reads

pub returns-in-Did-default-None-clause-reads : goal.returns-in-Did-default-None-clause-reads
returns-in-Did-default-None-clause-reads c =
    let a = c.args in let pool = a.pool.now in let old = a.seat.now in let mid = c.pop_cached.new.seat in
    let did = c.in-Did-default-None in let next = c.from_arena in let shape = pool.table.layout.shape in
    let lane = lane_of old in
    let noted = subst (λ (o : Option Region).
    IsNoted pool old mid (Cache lane a.class) did._number (plain (hit o))) did.field-1-is did.ensures.did in
    past_on pool old mid next.new.seat a.class a.root a.size next.result.0 next.result.1 c.requires.cached
    (hit_noted pool old mid a.class None did._number noted)
    (noted_lane pool old mid (Cache lane a.class) did._number _ noted) next.ensures.reads

pub returns-in-Held-clause-reads : goal.returns-in-Held-clause-reads
returns-in-Held-clause-reads c =
    let a = c.args in let pool = a.pool.now in let old = a.seat.now in let mid = c.pop_cached.new.seat in
    let held = c.in-Held in let next = c.from_arena-in-Held in
    past_on pool old mid next.new.seat a.class a.root a.size next.result.0 next.result.1 c.requires.cached
    (passed_by pool old mid a.class held._held held.ensures.held)
    (ap (λ m. unwrap_or m.0.own.number 0) held.ensures.held.marked) next.ensures.reads
