use Rattle.std.proofs.Common.{arith}
use Rattle.seat_work.specs.Hands.{empty_hand}
use Rattle.seat_work.proofs.Proceeding.{goes_on}
use Rattle.pool_bench.proofs.retained.retain_often.Goals as goal

pub loop-preserved : goal.loop-preserved
loop-preserved c =
    let once = c.retain_once in (
      goes_on c.args.pool.now empty_hand empty_hand 0 0 0 0 0 0 c.args.seat.now c.loop.seat once.new.seat
          c.loop.invariant.0 once.ensures.goes (omega arith) (omega arith),
      once.ensures.counts,
    )
