use Rattle.std.proofs.Common.{arith}
use Rattle.seat_work.specs.Changes.{once_more}
use Rattle.seat_work.specs.Hands.{empty_hand}
use Rattle.seat_work.proofs.Proceeding.{proceeds_then}
use Rattle.board_cases.proofs.cores.filled.Goals as goal

pub returns-clause-proceeds : goal.returns-clause-proceeds
returns-clause-proceeds g c =
    proceeds_then c.args.pool.now (once_more c.in-Ok.root) empty_hand empty_hand 6 0 1 0 7 0 c.args.seat.now
    c.allocate.new.seat c.set.new.seat c.in-Ok.ensures.proceeds c.set.ensures.proceeds (omega arith) (omega arith)
