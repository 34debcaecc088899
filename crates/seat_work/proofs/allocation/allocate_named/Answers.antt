use Rattle.std.proofs.Common.{ℕ, ◌≡◌, ◌*◌, ◌<◌, ◌≤◌, Result, IfOk, IfErr, sym, ◌∙◌, subst, arith}
use Rattle.pool_law.specs.declared.id.RootId.{RootId}
use Rattle.pool_law.specs.Views.{most_capacity}
use Rattle.pool_table.specs.Counts.{HasCount}
use Rattle.seat_work.specs.declared.allocation.AllocNo.{AllocNo}
use Rattle.seat_work.specs.declared.allocation.AllocNo.TheVariants.{NoHandle}
use Rattle.seat_work.specs.Answers.{with_place, allocated, refused, Allots, IsWorn}
use Rattle.seat_work.specs.Works.{HasBorn, Proceeds}
use Rattle.seat_work.specs.Hands.{empty_hand}
use Rattle.seat_work.proofs.ClassLaws.{if_sized, if_small}
use Rattle.seat_work.proofs.Later.{if_born_on, later_on}
use Rattle.seat_work.proofs.Proceeding.{proceeds_on, proceeds_more}
use Rattle.seat_work.proofs.Worn.{first_worn}
use Rattle.pool_law.specs.Patterns.{allot, bear as bears, obtain, with_handle}
use Rattle.pool_law.specs.Readers.{◌>>=◌}
use Rattle.shared_pool.specs.SeatLanes.{lane_of}
use Rattle.shared_pool.specs.SeatViews.{view_of}
use Rattle.seat_work.proofs.Noting.{allots_from, allots_on, same_lane}
use Rattle.seat_work.proofs.PartReads.{class_given}
use Rattle.seat_work.proofs.allocation.allocate_named.Goals as goal

pub returns-in-Some-clause-proceeds : goal.returns-in-Some-clause-proceeds
returns-in-Some-clause-proceeds g c =
    let next = c.allocate_at in
    subst (λ (r : Result RootId AllocNo).
    Proceeds c.args.pool.now empty_hand 6 0 (allocated r) c.args.seat.now next.new.seat)
    (sym (c.named.ensures c.args.size (if_sized c.args.size next.new.seat next.result next.ensures.root)))
    (proceeds_on c.args.pool.now (allocated next.result) (with_place c.in-Some.handle.place) empty_hand 1 0 5 0 6 0
    c.args.seat.now c.pop_handle.new.seat next.new.seat c.in-Some.ensures.proceeds next.ensures.proceeds
    (omega arith) (omega arith))

pub returns-in-Some-clause-root : goal.returns-in-Some-clause-root
returns-in-Some-clause-root g c =
    let next = c.allocate_at in let size = c.args.size in
    subst (λ (r : Result RootId AllocNo).
    IfOk r (λ root. (root.capacity ≡ size) × HasCount root (view_of next.new.seat)))
    (sym (c.named.ensures size (if_sized size next.new.seat next.result next.ensures.root))) next.ensures.root

pub returns-in-Some-clause-place : goal.returns-in-Some-clause-place
returns-in-Some-clause-place g c =
    let next = c.allocate_at in let size = c.args.size in let shape = c.args.pool.now.table.layout.shape in
    subst (λ (r : Result RootId AllocNo). IfOk r (λ root. root.place < shape.lanes * shape.handles))
    (sym (c.named.ensures size (if_sized size next.new.seat next.result next.ensures.root))) next.ensures.place

pub returns-in-Some-clause-worn : goal.returns-in-Some-clause-worn
returns-in-Some-clause-worn g c =
    let next = c.allocate_at in let size = c.args.size in
    subst (λ (r : Result RootId AllocNo). IfErr r (IsWorn c.args.pool.now c.args.seat.now next.new.seat))
    (sym (c.named.ensures size (if_sized size next.new.seat next.result next.ensures.root)))
    (first_worn c.args.pool.now c.args.seat.now c.pop_handle.new.seat next.new.seat c.in-Some.handle.place
    next.result c.in-Some.ensures.took next.ensures.worn)

pub returns-in-Some-clause-small : goal.returns-in-Some-clause-small
returns-in-Some-clause-small g c =
    let next = c.allocate_at in let size = c.args.size in
    subst (λ (r : Result RootId AllocNo). IfOk r (λ root. root.capacity ≤ most_capacity))
    (sym (c.named.ensures size (if_sized size next.new.seat next.result next.ensures.root)))
    (if_small c.args.pool.now next.new.seat size c.args.class next.result c.requires.class next.ensures.root)

pub returns-in-None-clause-proceeds : goal.returns-in-None-clause-proceeds
returns-in-None-clause-proceeds g c =
    proceeds_more c.args.pool.now (refused NoHandle) empty_hand 1 0 6 0 c.args.seat.now c.pop_handle.new.seat
    c.in-None.ensures.proceeds (omega arith) (omega arith)

pub returns-in-Some-clause-later : goal.returns-in-Some-clause-later
returns-in-Some-clause-later g c =
    later_on c.args.pool.now c.args.seat.now c.pop_handle.new.seat c.allocate_at.new.seat c.in-Some.ensures.later
    c.allocate_at.ensures.later

pub returns-in-Some-clause-born : goal.returns-in-Some-clause-born
returns-in-Some-clause-born g c =
    let next = c.allocate_at in let size = c.args.size in
    subst (λ (r : Result RootId AllocNo).
    IfOk r (λ root. HasBorn c.args.pool.now root c.args.seat.now next.new.seat))
    (sym (c.named.ensures size (if_sized size next.new.seat next.result next.ensures.root)))
    (if_born_on c.args.pool.now c.args.seat.now c.pop_handle.new.seat next.new.seat next.result
    c.in-Some.ensures.later next.ensures.born)

pub returns-in-Some-clause-allots : goal.returns-in-Some-clause-allots
returns-in-Some-clause-allots g c =
    let a = c.args in let old = a.seat.now in let mid = c.pop_handle.new.seat in let next = c.allocate_at in
    let shape = a.pool.now.table.layout.shape in let lane = lane_of old in let place = c.in-Some.handle.place in
    let some = c.in-Some.ensures in let handled = with_handle shape lane a.size place in
    subst (λ (r : Result RootId AllocNo).
    Allots (allot shape lane a.size) a.class a.watch.now r (view_of old) (view_of next.new.seat))
    (sym (c.named.ensures a.size (if_sized a.size next.new.seat next.result next.ensures.root)))
    (allots_on (allot shape lane a.size) handled a.class a.watch.now (view_of old) (view_of mid) (view_of next.new.seat)
    next.result (some.reads a.size)
    (allots_from handled (obtain shape lane a.class >>= bears lane place a.size) a.class a.watch.now (view_of mid)
    (view_of next.new.seat) (class_given shape lane a.class a.size place c.requires.class) next.result
    (subst (λ (l : ℕ). Allots (obtain shape l a.class >>= bears l place a.size) a.class a.watch.now next.result
    (view_of mid) (view_of next.new.seat)) (same_lane old mid some.proceeds.goes.number) next.ensures.allots)))

pub returns-in-None-clause-allots : goal.returns-in-None-clause-allots
returns-in-None-clause-allots g c = c.in-None.ensures.reads c.args.size

pub allocate_at-requires-clause-own : goal.allocate_at-requires-clause-own
allocate_at-requires-clause-own g c =
    c.in-Some.ensures.own
    ∙ sym (same_lane c.args.seat.now c.pop_handle.new.seat c.in-Some.ensures.proceeds.goes.number)
