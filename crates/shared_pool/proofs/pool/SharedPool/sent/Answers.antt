use Rattle.shared_pool.specs.SeatLanes.{lane_of}
use Rattle.shared_pool.proofs.MailSeats.{numbered}
use Rattle.shared_pool.proofs.pool.SharedPool.sent.Goals as goal

pub send-requires-clause-may : goal.send-requires-clause-may
send-requires-clause-may c =
    let pool = c.args.self.now in let s = c.args.seat.now in record {
      lane = lane_of s;
      number = numbered pool s c.requires.seat;
      receiver = c.requires.to;
      counts =
          c.requires.counts;
      reaches = c.requires.known;
      few = c.requires.few;
    }
