use Rattle.std.proofs.Common.{arith}
use Rattle.seat_work.specs.Changes.{no_change}
use Rattle.seat_work.specs.Hands.{empty_hand}
use Rattle.seat_work.proofs.Proceeding.{proceeds_on}
use Rattle.pool_bench.proofs.bytes.write_and_read.Goals as goal

pub returns-clause-proceeds : goal.returns-clause-proceeds
returns-clause-proceeds g c =
    proceeds_on c.args.pool.now no_change empty_hand empty_hand 1 0 1 0 2 0 c.args.seat.now c.set.new.seat
    c.get.new.seat c.set.ensures.proceeds c.get.ensures.proceeds (omega arith) (omega arith)
