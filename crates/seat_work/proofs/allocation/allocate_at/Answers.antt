use Rattle.std.proofs.Common.{ℕ, ◌≤◌, Some, None, sym, ◌∙◌, subst, arith}
use Rattle.pool_law.specs.Limits.{geometry_of}
use Rattle.size_classes.specs.Sizes.{size_at}
use Rattle.seat_work.specs.Answers.{with_place, with_both, allocated, Allots}
use Rattle.seat_work.specs.Hands.{empty_hand}
use Rattle.seat_work.proofs.ClassLaws.{class_holds}
use Rattle.seat_work.proofs.Later.{if_born_on, later_on}
use Rattle.seat_work.proofs.Proceeding.{proceeds_on}
use Rattle.seat_work.proofs.Worn.{still_worn}
use Rattle.pool_law.specs.Patterns.{ask_arena, bear as bears, obtain}
use Rattle.pool_law.specs.Readers.{◌>>=◌, give}
use Rattle.shared_pool.specs.SeatLanes.{lane_of}
use Rattle.shared_pool.specs.SeatViews.{view_of}
use Rattle.seat_work.proofs.Noting.{allots_from, allots_on, notes_then, same_lane}
use Rattle.seat_work.proofs.RegionNotes.{obtain_noted, taken_only}
use Rattle.seat_work.proofs.allocation.allocate_at.Goals as goal

pub bear_or_return-requires-clause-size : goal.bear_or_return-requires-clause-size
bear_or_return-requires-clause-size g c =
    subst (λ (class : ℕ). c.args.size ≤ size_at class) (sym c.in-Some.ensures.region.1)
    (class_holds (geometry_of c.args.pool.now.table.layout.shape) c.args.size c.args.class c.requires.class)

pub returns-in-Some-clause-proceeds : goal.returns-in-Some-clause-proceeds
returns-in-Some-clause-proceeds g c =
    let next = c.bear_or_return in
    proceeds_on c.args.pool.now (allocated next.result) (with_both c.args.handle.place c.in-Some.region.id) empty_hand
    1 0 3 0 5 0 c.args.seat.now c.pop_region.new.seat next.new.seat c.in-Some.ensures.proceeds
    next.ensures.proceeds (omega arith) (omega arith)

pub returns-in-Some-clause-worn : goal.returns-in-Some-clause-worn
returns-in-Some-clause-worn g c =
    still_worn c.args.pool.now c.args.seat.now c.pop_region.new.seat c.bear_or_return.new.seat c.args.handle.place
    c.bear_or_return.result c.in-Some.ensures.later c.bear_or_return.ensures.worn

pub returns-in-None-clause-proceeds : goal.returns-in-None-clause-proceeds
returns-in-None-clause-proceeds g c =
    let next = c.allocate_taken-in-None in
    proceeds_on c.args.pool.now (allocated next.result) (with_place c.args.handle.place) empty_hand 1 0 4 0 5 0
    c.args.seat.now c.pop_region.new.seat next.new.seat c.in-None.ensures.proceeds next.ensures.proceeds
    (omega arith) (omega arith)

pub returns-in-None-clause-worn : goal.returns-in-None-clause-worn
returns-in-None-clause-worn g c =
    let next = c.allocate_taken-in-None in
    still_worn c.args.pool.now c.args.seat.now c.pop_region.new.seat next.new.seat c.args.handle.place next.result
    c.in-None.ensures.later next.ensures.worn

pub returns-in-Some-clause-later : goal.returns-in-Some-clause-later
returns-in-Some-clause-later g c =
    later_on c.args.pool.now c.args.seat.now c.pop_region.new.seat c.bear_or_return.new.seat c.in-Some.ensures.later
    c.bear_or_return.ensures.later

pub returns-in-Some-clause-born : goal.returns-in-Some-clause-born
returns-in-Some-clause-born g c =
    if_born_on c.args.pool.now c.args.seat.now c.pop_region.new.seat c.bear_or_return.new.seat c.bear_or_return.result
    c.in-Some.ensures.later c.bear_or_return.ensures.born

pub returns-in-None-clause-later : goal.returns-in-None-clause-later
returns-in-None-clause-later g c =
    let next = c.allocate_taken-in-None in
    later_on c.args.pool.now c.args.seat.now c.pop_region.new.seat next.new.seat c.in-None.ensures.later
    next.ensures.later

pub returns-in-None-clause-born : goal.returns-in-None-clause-born
returns-in-None-clause-born g c =
    let next = c.allocate_taken-in-None in
    if_born_on c.args.pool.now c.args.seat.now c.pop_region.new.seat next.new.seat next.result c.in-None.ensures.later
    next.ensures.born

pub returns-in-Some-clause-allots : goal.returns-in-Some-clause-allots
returns-in-Some-clause-allots g c =
    let a = c.args in let old = a.seat.now in let mid = c.pop_region.new.seat in let next = c.bear_or_return in
    let shape = a.pool.now.table.layout.shape in let lane = lane_of old in let place = a.handle.place in
    let some = c.in-Some.ensures in let id = c.in-Some.region.id in let born = bears lane place a.size in
    allots_on (obtain shape lane a.class >>= born) (born (Some id)) a.class a.watch.now (view_of old) (view_of mid)
    (view_of next.new.seat) next.result
    (notes_then (obtain shape lane a.class) (give (Some id)) (view_of old) (view_of mid) born
    (obtain_noted shape lane a.class (omega arith) (Some id) (view_of old) (view_of mid) some.reads))
    (subst (λ (class : ℕ). Allots (born (Some id)) class a.watch.now next.result (view_of mid) (view_of next.new.seat))
    some.region.1
    (subst (λ (l : ℕ). Allots (bears l place a.size (Some id)) id.class a.watch.now next.result (view_of mid)
    (view_of next.new.seat)) (same_lane old mid some.proceeds.goes.number) next.ensures.allots))

pub returns-in-None-clause-allots : goal.returns-in-None-clause-allots
returns-in-None-clause-allots g c =
    let a = c.args in let old = a.seat.now in let mid = c.pop_region.new.seat in let next = c.allocate_taken-in-None in
    let shape = a.pool.now.table.layout.shape in let lane = lane_of old in let place = a.handle.place in
    let none = c.in-None.ensures in let born = bears lane place a.size in let arena = ask_arena shape lane a.class in
    allots_on (obtain shape lane a.class >>= born) (arena >>= born) a.class a.watch.now (view_of old) (view_of mid)
    (view_of next.new.seat) next.result
    (notes_then (obtain shape lane a.class) arena (view_of old) (view_of mid) born
    (obtain_noted shape lane a.class (omega arith) None (view_of old) (view_of mid) none.reads))
    (subst (λ (l : ℕ). Allots (ask_arena shape l a.class >>= bears l place a.size) a.class a.watch.now next.result
    (view_of mid) (view_of next.new.seat)) (same_lane old mid none.proceeds.goes.number) next.ensures.allots)

pub allocate_taken-requires-in-None-clause-own : goal.allocate_taken-requires-in-None-clause-own
allocate_taken-requires-in-None-clause-own g c =
    c.requires.own ∙ sym (same_lane c.args.seat.now c.pop_region.new.seat c.in-None.ensures.proceeds.goes.number)

pub returns-then-class-ge-CACHED_CLASSES-clause-allots : goal.returns-then-class-ge-CACHED_CLASSES-clause-allots
returns-then-class-ge-CACHED_CLASSES-clause-allots g c =
    let a = c.args in let old = a.seat.now in let next = c.allocate_taken in
    let shape = a.pool.now.table.layout.shape in let lane = lane_of old in let place = a.handle.place in
    let born = bears lane place a.size in
    allots_from (obtain shape lane a.class >>= born) (ask_arena shape lane a.class >>= born) a.class a.watch.now
    (view_of old) (view_of next.new.seat) (taken_only shape lane a.class born (omega arith)) next.result
    next.ensures.allots
