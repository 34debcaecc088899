use Rattle.pool_table.proofs.Calls.{splits_as}
use Rattle.pool_table.proofs.Words.{some_word}
use Rattle.std.proofs.Common.{ap}
use Rattle.pool_table.proofs.SeatFields.{fits_as}
use Rattle.pool_table.proofs.table.PoolTable.split.Goals as goal

pub split_seat-other-requires : goal.split_seat-other-requires
split_seat-other-requires g c = (
  c.requires.own,
  some_word c.args.self.now.layout.shape _ c.args.self.now.shape.some_lane c.args.self.now.words,
  splits_as g.H.Told.stands c.args.self.now.layout _ _ _ c.args.self.now.key c.requires.outside.0,
)

pub invariant_of-seat : goal.invariant_of-seat
invariant_of-seat g c =
    let s = c.args.seat.now in let v = s.seat.me.0 in
    record {
      of_view = fits_as s.number s.letter s.sent.items v c.split_seat-other.new.seat.me.0
          (ap (λ m. m.0) c.split_seat-other.ensures.2) s.of_view;
    }
