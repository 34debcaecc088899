use Rattle.pool_law.specs.declared.note.Object.TheVariants.{Cache}
use Rattle.shared_pool.specs.SeatLanes.{lane_of}
use Rattle.std.specs.Prelude.{None, option_map}
use Rattle.seat_work.specs.Answers.{hand_with}
use Rattle.seat_work.proofs.Calls.{popped_region, marked}
use Rattle.seat_work.proofs.Later.{later_noted, later_busy, quiet_hit}
use Rattle.seat_work.proofs.RegionNotes.{hit_noted, passed_by}
use Rattle.seat_work.proofs.regions.pop_region.Goals as goal

pub returns-in-Did-clause-proceeds : goal.returns-in-Did-clause-proceeds
returns-in-Did-clause-proceeds c =
    let did = c.in-Did in
    popped_region c.args.pool.now c.args.seat.now c.pop_cached.new.seat did.ensures.seat did._number
    (option_map (λ h. h.now.place) c.args.beside) c.args.class did.region c.requires.works did.ensures.did

pub returns-in-Held-clause-proceeds : goal.returns-in-Held-clause-proceeds
returns-in-Held-clause-proceeds c =
    let held = c.in-Held in let old = c.args.seat.now in
    marked c.args.pool.now old c.pop_cached.new.seat held.ensures.seat
    (hand_with (option_map (λ h. h.now.place) c.args.beside) None)
    (Cache (lane_of old) c.args.class) held._held c.requires.works held.ensures.held

pub returns-in-Did-clause-later : goal.returns-in-Did-clause-later
returns-in-Did-clause-later c =
    let did = c.in-Did in
    later_noted c.args.pool.now c.args.seat.now c.pop_cached.new.seat did.ensures.same c.requires.works.seat
    did.ensures.seat did.ensures.did (quiet_hit did.region)

pub returns-in-Held-clause-later : goal.returns-in-Held-clause-later
returns-in-Held-clause-later c =
    let held = c.in-Held in let old = c.args.seat.now in
    later_busy c.args.pool.now old c.pop_cached.new.seat held.ensures.same c.requires.works.seat held.ensures.seat
    (Cache (lane_of old) c.args.class) held._held held.ensures.held

pub returns-in-Did-clause-reads : goal.returns-in-Did-clause-reads
returns-in-Did-clause-reads c =
    hit_noted c.args.pool.now c.args.seat.now c.pop_cached.new.seat c.args.class c.in-Did.region c.in-Did._number
    c.in-Did.ensures.did

pub returns-in-Held-clause-reads : goal.returns-in-Held-clause-reads
returns-in-Held-clause-reads c =
    passed_by c.args.pool.now c.args.seat.now c.pop_cached.new.seat c.args.class c.in-Held._held c.in-Held.ensures.held
