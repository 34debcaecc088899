use Rattle.std.proofs.Common.{ℕ, ◌≤◌, ◌%◌, Err, refl, sym, ap, subst, arith}
use Rattle.std.specs.Prelude.{Option, Some, None, IfSome, ◌≡◌}
use Rattle.size_classes.specs.Sizes.{size_at}
use Rattle.pool_arena.specs.Standing.{taken_or_full}
use Rattle.pool_law.specs.Limits.{geometry_of}
use Rattle.pool_law.specs.declared.id.Region.{Region}
use Rattle.pool_law.specs.declared.note.Object.TheVariants.{Arena}
use Rattle.pool_table.specs.Counts.{HasCount}
use Rattle.pool_table.specs.declared.views.SeatView.{SeatView}
use Rattle.shared_pool.specs.Holding.{HoldsRegion}
use Rattle.shared_pool.specs.Notes.{plain}
use Rattle.shared_pool.specs.SeatLanes.{lane_of}
use Rattle.shared_pool.specs.Seats.{IsNoted}
use Rattle.shared_pool.specs.SeatViews.{view_of}
use Rattle.seat_work.specs.Answers.{hand_with, region_told}
use Rattle.seat_work.specs.Changes.{no_change}
use Rattle.seat_work.specs.Hands.{empty_hand}
use Rattle.seat_work.proofs.Calls.{taken_region, took_region}
use Rattle.seat_work.proofs.ClassLaws.{class_holds, class_inside}
use Rattle.seat_work.proofs.Counting.{still_counts}
use Rattle.seat_work.proofs.Later.{later_but, later_noted, quiet_taken}
use Rattle.seat_work.proofs.Proceeding.{works_after}
use Rattle.seat_tries.proofs.Goings.{works_less}
use Rattle.pool_member.specs.declared.work.attempted.AskNo.TheVariants.{Busy, Full}
use Rattle.pool_member.specs.Growths.{AsksOn}
use Rattle.pool_member.proofs.Asking.{asks_ended, asks_then, busy_goes, busy_has, busy_later}
use Rattle.pool_law.specs.Patterns.{ask_arena, grow_with}
use Rattle.pool_law.specs.declared.run.Reply.{Reply}
use Rattle.seat_work.proofs.Noting.{notes_given}
use Rattle.seat_work.proofs.RegionNotes.{take_noted}
use Rattle.pool_member.specs.Growths.{grow_taken}
use Rattle.pool_member.proofs.Asked.{nothing_left, regrows_on}
use Rattle.pool_member.proofs.work.attempted.from_arena.Goals as goal

pub take-requires-clause-class : goal.take-requires-clause-class
take-requires-clause-class c =
    class_inside (geometry_of c.args.pool.now.table.layout.shape) c.args.size c.args.class c.requires.class

-- the region of the arena came
pub move_into-requires-clause-works : goal.move_into-requires-clause-works
move_into-requires-clause-works c =
    let pool = c.args.pool.now in let old = c.args.seat.now in let mid = c.take.new.seat in
    let did = c.in-Did-default-Some in let works = c.requires.works in
    works_after pool empty_hand (hand_with None (Some did.region)) 4 0 1 0 3 0 old mid works
    (took_region pool old mid did.ensures.seat did._number None (lane_of old % pool.table.layout.shape.arenas)
    c.args.class (Some did.region) (works_less pool empty_hand 4 0 1 0 old works (omega arith) (omega arith))
    (subst (λ (o : Option Region).
    IsNoted pool old mid (Arena (lane_of old % pool.table.layout.shape.arenas)) did._number
    (plain (taken_or_full c.args.class o))) did.field-1-is did.ensures.did)).goes (omega arith) (omega arith)

pub move_into-requires-clause-counts : goal.move_into-requires-clause-counts
move_into-requires-clause-counts c =
    let pool = c.args.pool.now in let old = c.args.seat.now in let mid = c.take.new.seat in
    let did = c.in-Did-default-Some in let works = c.requires.works in
    still_counts no_change (view_of old) (view_of mid) c.args.root refl
    (took_region pool old mid did.ensures.seat did._number None (lane_of old % pool.table.layout.shape.arenas)
    c.args.class (Some did.region) (works_less pool empty_hand 4 0 1 0 old works (omega arith) (omega arith))
    (subst (λ (o : Option Region).
    IsNoted pool old mid (Arena (lane_of old % pool.table.layout.shape.arenas)) did._number
    (plain (taken_or_full c.args.class o))) did.field-1-is did.ensures.did)).changes c.requires.counts

pub move_into-requires-clause-region : goal.move_into-requires-clause-region
move_into-requires-clause-region c =
    let pool = c.args.pool.now in let mid = c.take.new.seat in let did = c.in-Did-default-Some in
    let class = c.args.class in let lane = lane_of c.args.seat.now in
    (taken_region pool mid (Some did.region) lane class
    (subst (λ (o : Option Region). IfSome o (λ r.
    HoldsRegion pool mid r × (r.id.owner ≡ lane) × (r.id.class ≡ class) × (r.id.uses ≡ 0)))
    did.field-1-is did.ensures.region)).0

pub move_into-requires-clause-long : goal.move_into-requires-clause-long
move_into-requires-clause-long c =
    let pool = c.args.pool.now in let mid = c.take.new.seat in let did = c.in-Did-default-Some in
    let class = c.args.class in let lane = lane_of c.args.seat.now in
    let region = taken_region pool mid (Some did.region) lane class
    (subst (λ (o : Option Region). IfSome o (λ r.
    HoldsRegion pool mid r × (r.id.owner ≡ lane) × (r.id.class ≡ class) × (r.id.uses ≡ 0)))
    did.field-1-is did.ensures.region) in
    subst (λ (k : ℕ). c.args.size ≤ size_at k) (sym region.1)
    (class_holds (geometry_of pool.table.layout.shape) c.args.size class c.requires.class)

pub returns-in-Did-default-Some-clause-asks : goal.returns-in-Did-default-Some-clause-asks
returns-in-Did-default-Some-clause-asks c =
    let pool = c.args.pool.now in let old = c.args.seat.now in let mid = c.take.new.seat in
    let did = c.in-Did-default-Some in let works = c.requires.works in let next = c.move_into in
    asks_then pool c.args.root c.args.size (hand_with None (Some did.region)) 1 3 4 old mid next.new.seat
    next.result.0 next.result.1
    (later_but pool c.args.root old mid
    (later_noted pool old mid did.ensures.same works.seat did.ensures.seat did.ensures.did
    (quiet_taken c.args.class _))) (omega arith)
    (took_region pool old mid did.ensures.seat did._number None (lane_of old % pool.table.layout.shape.arenas)
    c.args.class (Some did.region) (works_less pool empty_hand 4 0 1 0 old works (omega arith) (omega arith))
    (subst (λ (o : Option Region).
    IsNoted pool old mid (Arena (lane_of old % pool.table.layout.shape.arenas)) did._number
    (plain (taken_or_full c.args.class o))) did.field-1-is did.ensures.did)) next.ensures.asks

-- the arena was full
pub returns-in-Did-default-None-clause-asks : goal.returns-in-Did-default-None-clause-asks
returns-in-Did-default-None-clause-asks c =
    let pool = c.args.pool.now in let old = c.args.seat.now in let mid = c.take.new.seat in
    let did = c.in-Did-default-None in let works = c.requires.works in let root = c.args.root in
    let told = region_told None in
    let all = took_region pool old mid did.ensures.seat did._number None (lane_of old % pool.table.layout.shape.arenas)
    c.args.class None (works_less pool empty_hand 4 0 1 0 old works (omega arith) (omega arith))
    (subst (λ (o : Option Region).
    IsNoted pool old mid (Arena (lane_of old % pool.table.layout.shape.arenas)) did._number
    (plain (taken_or_full c.args.class o))) did.field-1-is did.ensures.did) in
    subst (AsksOn pool 4 root c.args.size old mid (Err Full)) (sym c.nothing.ensures)
    (asks_ended pool root c.args.size 1 4 old mid (Err Full) (omega arith) all
    (later_but pool root old mid
    (later_noted pool old mid did.ensures.same works.seat did.ensures.seat did.ensures.did
    (quiet_taken c.args.class _)))
    (still_counts told (view_of old) (view_of mid) root refl all.changes c.requires.counts) tt)

-- another seat was in its section
pub returns-in-Held-clause-asks : goal.returns-in-Held-clause-asks
returns-in-Held-clause-asks c =
    let pool = c.args.pool.now in let old = c.args.seat.now in let mid = c.take.new.seat in let held = c.in-Held in
    let works = c.requires.works in let root = c.args.root in let size = c.args.size in
    let o = Arena (lane_of old % pool.table.layout.shape.arenas) in
    subst (AsksOn pool 4 root size old mid (Err Busy)) (sym c.nothing-in-Held.ensures)
    (asks_ended pool root size 0 4 old mid (Err Busy) (omega arith)
    (busy_goes pool root size old mid o held._held held.ensures.same held.ensures.seat held.ensures.held 4 empty_hand
    works)
    (busy_later pool root size old mid o held._held held.ensures.same held.ensures.seat held.ensures.held 4 works.seat)
    (subst (λ (v : SeatView). HasCount root v) (sym (ap (λ m. m.0) held.ensures.held.marked)) c.requires.counts)
    (busy_has pool root size old mid o held._held held.ensures.same held.ensures.seat held.ensures.held 4 works.seat))

-- ---- What the law reads of it.

pub returns-in-Did-default-Some-clause-reads : goal.returns-in-Did-default-Some-clause-reads
returns-in-Did-default-Some-clause-reads c =
    let a = c.args in let pool = a.pool.now in let old = a.seat.now in let mid = c.take.new.seat in
    let did = c.in-Did-default-Some in let next = c.move_into in let shape = pool.table.layout.shape in
    let lane = lane_of old in let grows = grow_with a.root a.size in let r = Some did.region in
    regrows_on (grow_taken shape lane a.class a.root a.size) (grows (Some did.region.id)) next.result.1 (view_of old)
    (view_of mid) (view_of next.new.seat) next.result.0
    (notes_given (ask_arena shape lane a.class) (Some did.region.id) grows (view_of old) (view_of mid)
    (take_noted pool old mid a.class r did._number
    (subst (λ (o : Option Region).
    IsNoted pool old mid (Arena (lane % shape.arenas)) did._number (plain (taken_or_full a.class o))) did.field-1-is
    did.ensures.did))) next.ensures.reads

pub returns-in-Did-default-None-clause-reads : goal.returns-in-Did-default-None-clause-reads
returns-in-Did-default-None-clause-reads c =
    let a = c.args in let pool = a.pool.now in let old = a.seat.now in let mid = c.take.new.seat in
    let did = c.in-Did-default-None in let shape = pool.table.layout.shape in
    let lane = lane_of old in let grows = grow_with a.root a.size in
    nothing_left (grow_taken shape lane a.class a.root a.size) (Err Reply.Full) (view_of old) (view_of mid)
    c.nothing.result c.nothing.ensures
    (notes_given (ask_arena shape lane a.class) None grows (view_of old) (view_of mid)
    (take_noted pool old mid a.class None did._number
    (subst (λ (o : Option Region).
    IsNoted pool old mid (Arena (lane % shape.arenas)) did._number (plain (taken_or_full a.class o))) did.field-1-is
    did.ensures.did)))
