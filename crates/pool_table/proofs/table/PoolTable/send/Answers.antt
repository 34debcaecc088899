use Rattle.std.proofs.Common.{List, ℕ, set, sym, ap, ◌∙◌, subst, arith}
use Rattle.pool_table.specs.Letters.{next_letter, sends}
use Rattle.pool_table.specs.SeatFields.{IsSeatWith}
use Rattle.pool_table.proofs.SeatFields.{fits_as, fits_sends, sent_count}
use Rattle.pool_table.proofs.table.PoolTable.send.Goals as goal

pub index_mut-requires : goal.index_mut-requires
index_mut-requires g c =
    let s = c.args.seat.now in let shape = c.args.self.now.layout.shape in
    let n = sent_count s.number s.letter s.sent.items shape s.seat.me.0 c.args.to c.args.parcel
    c.args.self.now.shape.lanes c.requires.may s.of_view in
    omega (arith, s.sent.ok.0, n.0)

pub invariant_of-seat : goal.invariant_of-seat
invariant_of-seat g c =
    let s = c.args.seat.now in let v = s.seat.me.0 in let x = next_letter c.args.to c.args.parcel v in
    let sent : List ℕ = set s.sent.items c.args.to c.letter_to-letter.result.number in record {
      of_view = fits_as s.number s.letter sent (sends v x) c.look_round.new.seat.me.0
          (ap (λ m. m.0) (c.look_round.ensures.unchanged ∙ c.send_seat-other.ensures.left))
          (subst (λ (n : ℕ). IsSeatWith s.number s.letter (set s.sent.items c.args.to n) (sends v x))
          (sym (ap (λ y. y.number) c.letter_to-letter.ensures))
          (fits_sends s.number s.letter s.sent.items c.args.self.now.layout.shape v c.args.to c.args.parcel
          c.args.self.now.shape.lanes c.requires.may s.of_view));
    }
