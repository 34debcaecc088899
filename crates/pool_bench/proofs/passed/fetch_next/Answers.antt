use Rattle.std.proofs.Common.{arith}
use Rattle.shared_pool.specs.SeatViews.{view_of}
use Rattle.seat_work.specs.Changes.{no_change}
use Rattle.seat_work.specs.Hands.{empty_hand}
use Rattle.seat_work.proofs.Proceeding.{goes_on, proceeds_on, sends_on}
use Rattle.pool_bench.proofs.passed.fetch_next.Goals as goal

pub loop-preserved : goal.loop-preserved
loop-preserved g c =
    proceeds_on c.args.pool.now no_change empty_hand empty_hand 0 0 0 0 0 0 c.args.seat.now c.loop.seat c.fetch.new.seat
    c.loop.invariant c.in-None-fetch.ensures.proceeds (omega arith) (omega arith)

pub returns-in-Some-fetch-clause-sends : goal.returns-in-Some-fetch-clause-sends
returns-in-Some-fetch-clause-sends g c =
    sends_on 0 0 (view_of c.args.seat.now) (view_of c.loop.seat) (view_of c.fetch.new.seat) c.loop.invariant.sends
    c.in-Some-fetch.ensures.proceeds.sends

pub returns-in-Some-fetch-clause-goes : goal.returns-in-Some-fetch-clause-goes
returns-in-Some-fetch-clause-goes g c =
    goes_on c.args.pool.now empty_hand empty_hand 0 0 0 0 0 0 c.args.seat.now c.loop.seat c.fetch.new.seat
    c.loop.invariant.goes c.in-Some-fetch.ensures.proceeds.goes (omega arith) (omega arith)
