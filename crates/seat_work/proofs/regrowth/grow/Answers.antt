use Rattle.std.proofs.Common.{arith, ℕ, subst}
use Rattle.seat_work.specs.Changes.{no_change}
use Rattle.seat_work.specs.Growth.{is_quiet_but}
use Rattle.seat_work.specs.Hands.{empty_hand}
use Rattle.seat_work.specs.Regrowths.{grown, reply_of}
use Rattle.seat_work.proofs.Later.{follows_on}
use Rattle.seat_work.proofs.Proceeding.{proceeds_more, proceeds_on}
use Rattle.seat_work.proofs.Regrowing.{if_learned_on, if_told_on}
use Rattle.pool_law.specs.Patterns.{grow_with, obtain, regrow}
use Rattle.pool_law.specs.Readers.{◌>>=◌, give}
use Rattle.shared_pool.specs.SeatLanes.{lane_of}
use Rattle.shared_pool.specs.SeatViews.{view_of}
use Rattle.seat_work.specs.Readings.{NotesAs}
use Rattle.seat_work.proofs.GrowthNotes.{enough_noted, short_noted}
use Rattle.seat_work.proofs.Noting.{notes_on, same_lane}
use Rattle.seat_work.proofs.regrowth.grow.Goals as goal

pub returns-in-Enough-clause-proceeds : goal.returns-in-Enough-clause-proceeds
returns-in-Enough-clause-proceeds g c =
    proceeds_more c.args.pool.now no_change empty_hand 1 0 6 0 c.args.seat.now c.ask.new.seat
    c.ask.ensures.proceeds (omega arith) (omega arith)

pub returns-in-Extended-clause-proceeds : goal.returns-in-Extended-clause-proceeds
returns-in-Extended-clause-proceeds g c =
    proceeds_more c.args.pool.now no_change empty_hand 1 0 6 0 c.args.seat.now c.ask.new.seat
    c.ask.ensures.proceeds (omega arith) (omega arith)

pub returns-in-Short-clause-proceeds : goal.returns-in-Short-clause-proceeds
returns-in-Short-clause-proceeds g c =
    let next = c.grow_out in
    proceeds_on c.args.pool.now (grown next.result) empty_hand empty_hand 1 0 5 0 6 0 c.args.seat.now c.ask.new.seat
    next.new.seat c.ask.ensures.proceeds next.ensures.proceeds (omega arith) (omega arith)

pub returns-in-Short-clause-capacity : goal.returns-in-Short-clause-capacity
returns-in-Short-clause-capacity g c =
    let next = c.grow_out in
    if_learned_on c.args.pool.now c.args.root c.args.seat.now c.ask.new.seat next.new.seat next.result
    c.ask.ensures.proceeds.goes.knows next.ensures.capacity

pub returns-in-Short-clause-told : goal.returns-in-Short-clause-told
returns-in-Short-clause-told g c =
    let next = c.grow_out in
    if_told_on c.args.pool.now c.args.root c.args.seat.now c.ask.new.seat next.new.seat next.result
    c.ask.ensures.later next.ensures.told

pub returns-in-Short-clause-later : goal.returns-in-Short-clause-later
returns-in-Short-clause-later g c =
    follows_on c.args.pool.now (is_quiet_but c.args.root) c.args.seat.now c.ask.new.seat c.grow_out.new.seat
    c.ask.ensures.later c.grow_out.ensures.later

pub returns-in-Enough-clause-reads : goal.returns-in-Enough-clause-reads
returns-in-Enough-clause-reads g c =
    let a = c.args in
    enough_noted a.pool.now.table.layout.shape (lane_of a.seat.now) a.class a.size a.root c.requires.class
    (view_of a.seat.now) (view_of c.ask.new.seat) c.in-Enough.capacity c.in-Enough.ensures.reads
    c.in-Enough.ensures.answer

pub returns-in-Extended-clause-reads : goal.returns-in-Extended-clause-reads
returns-in-Extended-clause-reads g c =
    let a = c.args in
    enough_noted a.pool.now.table.layout.shape (lane_of a.seat.now) a.class a.size a.root c.requires.class
    (view_of a.seat.now) (view_of c.ask.new.seat) a.size c.in-Extended.ensures.reads (omega arith)

pub returns-in-Short-clause-reads : goal.returns-in-Short-clause-reads
returns-in-Short-clause-reads g c =
    let a = c.args in let old = a.seat.now in let mid = c.ask.new.seat in let next = c.grow_out in
    let shape = a.pool.now.table.layout.shape in let lane = lane_of old in let short = c.in-Short.ensures in
    notes_on (regrow shape lane a.root a.size) (obtain shape lane a.class >>= grow_with a.root a.size) (view_of old)
    (view_of mid) (give (reply_of next.result)) (view_of next.new.seat)
    (short_noted shape lane a.class a.size a.root c.requires.class (view_of old) (view_of mid) c.in-Short._capacity
    short.reads short.answer)
    (subst (λ (l : ℕ). NotesAs (obtain shape l a.class >>= grow_with a.root a.size) (reply_of next.result) (view_of mid)
    (view_of next.new.seat)) (same_lane old mid short.proceeds.goes.number) next.ensures.reads)
