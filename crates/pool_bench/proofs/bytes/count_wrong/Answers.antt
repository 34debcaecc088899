use Rattle.std.proofs.Common.{arith}
use Rattle.seat_work.specs.Hands.{empty_hand}
use Rattle.seat_work.proofs.Proceeding.{goes_on}
use Rattle.pool_bench.proofs.bytes.count_wrong.Goals as goal

pub returns-clause-goes : goal.returns-clause-goes
returns-clause-goes g c =
    let pool = c.args.pool.now in let old = c.args.seat.now in let read = c.get.new.seat in
    let written = c.set.new.seat in
    goes_on pool empty_hand empty_hand 2 0 1 0 3 0 old written c.get-2.new.seat
    (goes_on pool empty_hand empty_hand 1 0 1 0 2 0 old read written c.get.ensures.proceeds.goes
    c.set.ensures.proceeds.goes (omega arith) (omega arith)) c.get-2.ensures.proceeds.goes (omega arith) (omega arith)
