use Rattle.std.proofs.Common.{arith}
use Rattle.seat_work.specs.Answers.{with_place}
use Rattle.seat_work.specs.Changes.{no_change}
use Rattle.seat_work.specs.Hands.{empty_hand}
use Rattle.seat_work.proofs.Later.{later_on}
use Rattle.seat_work.proofs.Proceeding.{proceeds_on}
use Rattle.seat_work.proofs.ending.put_away.Goals as goal

pub returns-clause-proceeds : goal.returns-clause-proceeds
returns-clause-proceeds g c =
    proceeds_on c.args.pool.now no_change (with_place c.args.handle.place) empty_hand 2 0 1 0 3 0 c.args.seat.now
    c.put_back.new.seat c.put_handle.new.seat c.put_back.ensures.proceeds c.put_handle.ensures.proceeds
    (omega arith) (omega arith)

pub returns-clause-later : goal.returns-clause-later
returns-clause-later g c =
    later_on c.args.pool.now c.args.seat.now c.put_back.new.seat c.put_handle.new.seat c.put_back.ensures.later
    c.put_handle.ensures.later
