use Rattle.shared_pool.proofs.SeatShares.{still_seat}
use Rattle.shared_pool.proofs.pool.SharedPool.accept.Goals as goal

pub returns-clause-seat : goal.returns-clause-seat
returns-clause-seat c =
    still_seat c.args.self.now c.args.seat.now c.accept.new.seat _ c.requires.seat c.accept.ensures.same
    c.accept.ensures.added
