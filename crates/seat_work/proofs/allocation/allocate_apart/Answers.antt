use Rattle.std.proofs.Common.{ℕ, ◌≤◌, Some, None, sym, subst, arith}
use Rattle.std.specs.Prelude.{Err}
use Rattle.pool_law.specs.Limits.{geometry_of}
use Rattle.size_classes.specs.Sizes.{size_at}
use Rattle.seat_work.specs.declared.allocation.AllocNo.TheVariants.{Full}
use Rattle.seat_work.specs.Answers.{with_place, with_both, allocated, refused, Allots}
use Rattle.seat_work.specs.Hands.{empty_hand}
use Rattle.seat_work.proofs.ClassLaws.{class_inside, class_holds}
use Rattle.seat_work.proofs.Later.{if_born_on, later_on}
use Rattle.seat_work.proofs.Proceeding.{proceeds_on, proceeds_then}
use Rattle.seat_work.proofs.Worn.{still_worn}
use Rattle.pool_law.specs.declared.run.Reply.{Reply}
use Rattle.pool_law.specs.declared.note.Object.TheVariants.{Bin}
use Rattle.pool_law.specs.Dids as says
use Rattle.pool_law.specs.Patterns.{ask_arena, bear as bears}
use Rattle.pool_law.specs.Readers.{◌>>=◌, give, note}
use Rattle.shared_pool.specs.SeatLanes.{lane_of}
use Rattle.shared_pool.specs.SeatViews.{view_of}
use Rattle.seat_work.specs.Readings.{NotesAs}
use Rattle.seat_work.proofs.Noting.{allots_on, notes_given, notes_on, same_lane}
use Rattle.seat_work.proofs.allocation.allocate_apart.Goals as goal

pub take_region-requires-clause-class : goal.take_region-requires-clause-class
take_region-requires-clause-class g c =
    class_inside (geometry_of c.args.pool.now.table.layout.shape) c.args.size c.args.class c.requires.class

pub bear_or_return-requires-clause-size : goal.bear_or_return-requires-clause-size
bear_or_return-requires-clause-size g c =
    subst (λ (class : ℕ). c.args.size ≤ size_at class) (sym c.in-Some.ensures.region.1)
    (class_holds (geometry_of c.args.pool.now.table.layout.shape) c.args.size c.args.class c.requires.class)

pub returns-in-Some-clause-proceeds : goal.returns-in-Some-clause-proceeds
returns-in-Some-clause-proceeds g c =
    let next = c.bear_or_return in
    proceeds_on c.args.pool.now (allocated next.result) (with_both c.args.handle.place c.in-Some.taken.id) empty_hand
    1 0 3 0 4 0 c.args.seat.now c.take_region.new.seat next.new.seat c.in-Some.ensures.proceeds
    next.ensures.proceeds (omega arith) (omega arith)

pub returns-in-Some-clause-worn : goal.returns-in-Some-clause-worn
returns-in-Some-clause-worn g c =
    still_worn c.args.pool.now c.args.seat.now c.take_region.new.seat c.bear_or_return.new.seat c.args.handle.place
    c.bear_or_return.result c.in-Some.ensures.later c.bear_or_return.ensures.worn

pub returns-in-None-clause-proceeds : goal.returns-in-None-clause-proceeds
returns-in-None-clause-proceeds g c =
    proceeds_then c.args.pool.now (refused Full) (with_place c.args.handle.place) empty_hand 1 0 1 0 4 0
    c.args.seat.now c.take_region.new.seat c.put_handle.new.seat c.in-None.ensures.proceeds
    c.put_handle.ensures.proceeds
    (omega arith) (omega arith)

pub returns-in-Some-clause-later : goal.returns-in-Some-clause-later
returns-in-Some-clause-later g c =
    later_on c.args.pool.now c.args.seat.now c.take_region.new.seat c.bear_or_return.new.seat c.in-Some.ensures.later
    c.bear_or_return.ensures.later

pub returns-in-Some-clause-born : goal.returns-in-Some-clause-born
returns-in-Some-clause-born g c =
    if_born_on c.args.pool.now c.args.seat.now c.take_region.new.seat c.bear_or_return.new.seat c.bear_or_return.result
    c.in-Some.ensures.later c.bear_or_return.ensures.born

pub returns-in-None-clause-later : goal.returns-in-None-clause-later
returns-in-None-clause-later g c =
    later_on c.args.pool.now c.args.seat.now c.take_region.new.seat c.put_handle.new.seat c.in-None.ensures.later
    c.put_handle.ensures.later

pub returns-in-Some-clause-allots : goal.returns-in-Some-clause-allots
returns-in-Some-clause-allots g c =
    let a = c.args in let old = a.seat.now in let mid = c.take_region.new.seat in let next = c.bear_or_return in
    let shape = a.pool.now.table.layout.shape in let lane = lane_of old in let place = a.handle.place in
    let some = c.in-Some.ensures in let id = c.in-Some.taken.id in let born = bears lane place a.size in
    allots_on (ask_arena shape lane a.class >>= born) (born (Some id)) a.class a.watch.now (view_of old) (view_of mid)
    (view_of next.new.seat) next.result
    (notes_given (ask_arena shape lane a.class) (Some id) born (view_of old) (view_of mid) some.reads)
    (subst (λ (class : ℕ). Allots (born (Some id)) class a.watch.now next.result (view_of mid) (view_of next.new.seat))
    some.region.1
    (subst (λ (l : ℕ). Allots (bears l place a.size (Some id)) id.class a.watch.now next.result (view_of mid)
    (view_of next.new.seat)) (same_lane old mid some.proceeds.goes.number) next.ensures.allots))

pub returns-in-None-clause-allots : goal.returns-in-None-clause-allots
returns-in-None-clause-allots g c =
    let a = c.args in let old = view_of a.seat.now in let mid = view_of c.take_region.new.seat in
    let new = view_of c.put_handle.new.seat in
    let shape = a.pool.now.table.layout.shape in let lane = lane_of a.seat.now in let place = a.handle.place in
    let born = bears lane place a.size in
    notes_on (ask_arena shape lane a.class >>= born) (born None) old mid (give (Err Reply.Full)) new
    (notes_given (ask_arena shape lane a.class) None born old mid c.in-None.ensures.reads)
    (notes_given (note (Bin lane) (says.home place)) tt (λ _. give (Err Reply.Full)) mid new
    (subst (λ (l : ℕ). NotesAs (note (Bin l) (says.home place)) tt mid new) c.requires.own c.put_handle.ensures.reads))
