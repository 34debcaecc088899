use Rattle.shared_pool.specs.SeatViews.{view_of}
use Rattle.seat_work.proofs.Proceeding.{goes_on, sends_on}
use Rattle.std.proofs.Common.{arith}
use Rattle.seat_work.specs.Hands.{empty_hand}
use Rattle.pool_bench.proofs.passed.make_one.Goals as goal

pub returns-clause-sends : goal.returns-clause-sends
returns-clause-sends g c =
    let made = c.allocate in let used = c.write_and_read-sum in
    sends_on 0 0 (view_of c.args.seat.now) (view_of made.new.seat) (view_of used.new.seat) made.ensures.proceeds.sends
    used.ensures.proceeds.sends

pub returns-clause-goes : goal.returns-clause-goes
returns-clause-goes g c =
    let made = c.allocate in let used = c.write_and_read-sum in
    goes_on c.args.pool.now empty_hand empty_hand 6 0 2 0 8 0 c.args.seat.now made.new.seat used.new.seat
    made.ensures.proceeds.goes used.ensures.proceeds.goes (omega arith) (omega arith)
