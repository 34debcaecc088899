use Rattle.std.proofs.Common.{arith}
use Rattle.seat_work.specs.Hands.{empty_hand}
use Rattle.seat_work.proofs.Proceeding.{goes_on}
use Rattle.pool_bench.specs.Runs.{block_moves, block_turns}
use Rattle.pool_bench.proofs.alone.one_block.Goals as goal

pub returns-then-byte-eq0 : goal.returns-then-byte-eq0
returns-then-byte-eq0 g c =
    goes_on c.args.pool.now empty_hand empty_hand 6 0 3 0 block_turns block_moves c.args.seat.now c.allocate.new.seat
    c.access-sum.new.seat c.allocate.ensures.proceeds.goes c.access-sum.ensures.goes (omega arith) (omega arith)

pub returns : goal.returns
returns g c =
    let pool = c.args.pool.now in let old = c.args.seat.now in let made = c.allocate.new.seat in
    let used = c.access-sum.new.seat in
    goes_on pool empty_hand empty_hand 9 0 4 0 block_turns block_moves old used c.release.new.seat
    (goes_on pool empty_hand empty_hand 6 0 3 0 9 0 old made used c.allocate.ensures.proceeds.goes
    c.access-sum.ensures.goes (omega arith) (omega arith)) c.release.ensures.proceeds.goes (omega arith) (omega arith)
