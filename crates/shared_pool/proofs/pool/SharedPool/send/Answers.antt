use Rattle.shared_pool.proofs.MailSeats.{sent_own}
use Rattle.shared_pool.proofs.pool.SharedPool.send.Goals as goal

pub returns-clause-seat : goal.returns-clause-seat
returns-clause-seat c =
    sent_own c.args.self.now c.args.seat.now c.sent.new.seat c.args.to c.sent.result.letter.number c.args.parcel
    c.requires.seat c.sent.ensures.same c.sent.ensures.ends c.sent.ensures.posted c.sent.ensures.counts c.requires.own
