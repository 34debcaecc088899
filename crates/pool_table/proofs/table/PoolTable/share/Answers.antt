use Rattle.std.proofs.Common.{ap}
use Rattle.pool_table.specs.Steps.{share_left}
use Rattle.pool_table.proofs.SeatFields.{fits_as}
use Rattle.pool_table.proofs.table.PoolTable.share.Goals as goal

pub invariant_of-seat : goal.invariant_of-seat
invariant_of-seat g c =
    let s = c.args.seat.now in let v = s.seat.me.0 in
    record {
      of_view = fits_as s.number s.letter s.sent.items (share_left c.args.moves v) c.share_seat-other.new.seat.me.0
          (ap (λ m. m.0) c.share_seat-other.ensures.left)
          (record { numbered = s.of_view.numbered; lettered = s.of_view.lettered; counted = s.of_view.counted });
    }
