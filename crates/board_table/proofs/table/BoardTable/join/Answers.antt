use Rattle.std.proofs.Common.{arith, ap}
use Rattle.board_table.proofs.Calls.{joined_within}
use Rattle.board_table.proofs.Seatings.{joins_allowed}
use Rattle.board_table.proofs.table.BoardTable.join.Goals as goal

pub join_seat-requires : goal.join_seat-requires
join_seat-requires g c =
    let t = c.args.self.now in let words = t.words in let some = t.some in (
      c.requires.own,
      c.requires.other_own,
      c.requires.other_outside.1,
      omega (arith, words, some),
      joins_allowed g.H.Homed.stands g.H.Homed.left t.table.shared.key _ _ _ _ c.requires.outside.0
          c.requires.other_outside.0,
    )

pub invariant_of-seat : goal.invariant_of-seat
invariant_of-seat g c =
    let v = c.args.seat.now in let w = c.args.other in
    record {
      within = joined_within v.seat.me.0.stakes w.seat.me.0.stakes _ v.seat.table_id.words w.seat.table_id.words
          c.args.self.now.table.shared.table_id.words _ c.args.self.now.composites v.within w.within
          (ap (λ i. i.words) c.requires.own) (ap (λ i. i.words) c.requires.other_own) c.args.self.now.words
          (ap (λ i. i.words) c.join_seat.ensures.0) (ap (λ m. m.0.stakes) c.join_seat.ensures.2);
    }
