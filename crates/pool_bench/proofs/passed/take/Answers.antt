use Rattle.shared_pool.specs.SeatViews.{view_of}
use Rattle.seat_work.proofs.Proceeding.{goes_on, sends_on}
use Rattle.std.proofs.Common.{arith}
use Rattle.seat_work.specs.Hands.{empty_hand}
use Rattle.pool_bench.proofs.passed.take.Goals as goal

pub returns-clause-sends : goal.returns-clause-sends
returns-clause-sends g c =
    let read = c.read_first-sum in
    sends_on 0 0 (view_of c.args.seat.now) (view_of read.new.seat) (view_of c.release.new.seat) read.ensures.sends
    c.release.ensures.proceeds.sends

pub returns-clause-goes : goal.returns-clause-goes
returns-clause-goes g c =
    let read = c.read_first-sum in
    goes_on c.args.pool.now empty_hand empty_hand 1 0 4 0 5 0 c.args.seat.now read.new.seat c.release.new.seat
    read.ensures.goes c.release.ensures.proceeds.goes (omega arith) (omega arith)
