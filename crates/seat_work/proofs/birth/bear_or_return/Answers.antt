use Rattle.std.proofs.Common.{arith}
use Rattle.seat_work.specs.Answers.{with_both}
use Rattle.seat_work.specs.Changes.{no_change, once_more}
use Rattle.seat_work.specs.Hands.{empty_hand}
use Rattle.seat_work.proofs.Later.{later_none, later_on}
use Rattle.seat_work.proofs.Proceeding.{proceeds_on, proceeds_more}
use Rattle.seat_work.proofs.birth.bear_or_return.Goals as goal

pub returns-in-Ok-clause-proceeds : goal.returns-in-Ok-clause-proceeds
returns-in-Ok-clause-proceeds g c =
    proceeds_more c.args.pool.now (once_more c.in-Ok.root) empty_hand 1 0 3 0 c.args.seat.now c.bear.new.seat
    c.in-Ok.ensures.born (omega arith) (omega arith)

pub returns-in-Err-clause-proceeds : goal.returns-in-Err-clause-proceeds
returns-in-Err-clause-proceeds g c =
    let worn = c.in-Err.worn in
    proceeds_on c.args.pool.now no_change (with_both worn.handle.place worn.region.id) empty_hand 0 0 3 0 3 0
    c.args.seat.now c.bear.new.seat c.return_both.new.seat c.in-Err.ensures.kept c.return_both.ensures.proceeds
    (omega arith) (omega arith)

pub returns-in-Err-clause-worn : goal.returns-in-Err-clause-worn
returns-in-Err-clause-worn g c =
    let pool = c.args.pool.now in let mid = c.args.seat.now in let next = c.return_both in
    record {
      mid = mid;
      before = later_none pool mid c.requires.works.seat;
      region = c.args.region.id;
      held = c.requires.works.held;
      found = c.in-Err.ensures.worn;
      after = later_on pool mid c.bear.new.seat next.new.seat c.in-Err.ensures.later next.ensures.later;
    }

pub returns-in-Err-clause-later : goal.returns-in-Err-clause-later
returns-in-Err-clause-later g c =
    later_on c.args.pool.now c.args.seat.now c.bear.new.seat c.return_both.new.seat c.in-Err.ensures.later
    c.return_both.ensures.later
