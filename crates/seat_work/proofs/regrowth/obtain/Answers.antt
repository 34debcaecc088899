use Rattle.std.proofs.Common.{None, Some, arith, ℕ, subst}
use Rattle.seat_work.specs.Answers.{hand_with, region_told}
use Rattle.seat_work.specs.Changes.{no_change}
use Rattle.seat_work.proofs.Later.{later_on}
use Rattle.seat_work.proofs.Proceeding.{proceeds_more, proceeds_on}
use Rattle.std.specs.Prelude.{option_map}
use Rattle.pool_law.specs.Patterns.{ask_arena, obtain}
use Rattle.pool_law.specs.Readers.{give}
use Rattle.shared_pool.specs.SeatLanes.{lane_of}
use Rattle.shared_pool.specs.SeatViews.{view_of}
use Rattle.seat_work.specs.Readings.{NotesAs}
use Rattle.seat_work.proofs.Noting.{notes_on, same_lane, notes_from}
use Rattle.seat_work.proofs.RegionNotes.{obtain_noted}
use Rattle.seat_work.proofs.PartReads.{obtain_uncached}
use Rattle.seat_work.proofs.regrowth.obtain.Goals as goal

pub returns-in-Some-clause-proceeds : goal.returns-in-Some-clause-proceeds
returns-in-Some-clause-proceeds g c =
    proceeds_more c.args.pool.now no_change (hand_with None (Some c.in-Some.region)) 1 0 2 0 c.args.seat.now
    c.pop_region.new.seat c.in-Some.ensures.proceeds (omega arith) (omega arith)

pub returns-in-None-clause-proceeds : goal.returns-in-None-clause-proceeds
returns-in-None-clause-proceeds g c =
    let next = c.take_region-in-None in
    proceeds_on c.args.pool.now (region_told next.result) (hand_with None None) (hand_with None next.result) 1 0 1 0 2 0
    c.args.seat.now c.pop_region.new.seat next.new.seat c.in-None.ensures.proceeds next.ensures.proceeds
    (omega arith) (omega arith)

pub returns-in-None-clause-later : goal.returns-in-None-clause-later
returns-in-None-clause-later g c =
    let next = c.take_region-in-None in
    later_on c.args.pool.now c.args.seat.now c.pop_region.new.seat next.new.seat c.in-None.ensures.later
    next.ensures.later

pub returns-in-Some-clause-reads : goal.returns-in-Some-clause-reads
returns-in-Some-clause-reads g c =
    obtain_noted c.args.pool.now.table.layout.shape (lane_of c.args.seat.now) c.args.class (omega arith)
    (Some c.in-Some.region.id) (view_of c.args.seat.now) (view_of c.pop_region.new.seat) c.in-Some.ensures.reads

pub returns-in-None-clause-reads : goal.returns-in-None-clause-reads
returns-in-None-clause-reads g c =
    let a = c.args in let old = a.seat.now in let mid = c.pop_region.new.seat in let next = c.take_region-in-None in
    let shape = a.pool.now.table.layout.shape in let lane = lane_of old in let none = c.in-None.ensures in
    let got = option_map (λ r. r.id) next.result in
    notes_on (obtain shape lane a.class) (ask_arena shape lane a.class) (view_of old) (view_of mid) (give got)
    (view_of next.new.seat)
    (obtain_noted shape lane a.class (omega arith) None (view_of old) (view_of mid) none.reads)
    (subst (λ (l : ℕ). NotesAs (ask_arena shape l a.class) got (view_of mid) (view_of next.new.seat))
    (same_lane old mid none.proceeds.goes.number) next.ensures.reads)

pub returns-then-class-ge-CACHED_CLASSES-clause-reads : goal.returns-then-class-ge-CACHED_CLASSES-clause-reads
returns-then-class-ge-CACHED_CLASSES-clause-reads g c =
    let a = c.args in let old = a.seat.now in let next = c.take_region in
    let shape = a.pool.now.table.layout.shape in let lane = lane_of old in
    notes_from (ask_arena shape lane a.class) (give (option_map (λ r. r.id) next.result)) (view_of old)
    (view_of next.new.seat) (obtain shape lane a.class) (obtain_uncached shape lane a.class (omega arith))
    next.ensures.reads
