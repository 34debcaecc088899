use Rattle.std.proofs.Common.{arith}
use Rattle.seat_work.specs.Changes.{no_change}
use Rattle.seat_work.specs.Hands.{empty_hand}
use Rattle.seat_work.proofs.Proceeding.{proceeds_on}
use Rattle.pool_bench.proofs.places.mark_ends.Goals as goal

pub returns : goal.returns
returns g c =
    let pool = c.args.pool.now in let old = c.args.seat.now in
    proceeds_on pool no_change empty_hand empty_hand 2 0 1 0 3 0 old c.set-2.new.seat c.get.new.seat
    (proceeds_on pool no_change empty_hand empty_hand 1 0 1 0 2 0 old c.set.new.seat c.set-2.new.seat
    c.set.ensures.proceeds c.set-2.ensures.proceeds (omega arith) (omega arith))
    c.get.ensures.proceeds (omega arith) (omega arith)
