use Rattle.std.proofs.Common.{◌≡◌, sym, ap, ◌∙◌, subst}
use Rattle.pool_table.specs.Letters.{first_letter}
use Rattle.pool_table.specs.Views.{joined}
use Rattle.pool_table.proofs.Calls.{joins_as}
use Rattle.pool_table.proofs.SeatFields.{fits_as, first_added, first_kept}
use Rattle.pool_table.proofs.Words.{some_word}
use Rattle.pool_table.proofs.table.PoolTable.join.Goals as goal

pub join_seat-requires : goal.join_seat-requires
join_seat-requires g c = let e = ap (λ p. p.0) c.into_parts-other.ensures in (
  c.requires.own,
  ap (λ s. s.table_id) e ∙ c.requires.other_own,
  ap (λ s. s.me.1) e ∙ c.requires.other_outside.1,
  some_word c.args.self.now.layout.shape _ c.args.self.now.shape.some_lane c.args.self.now.words,
  joins_as g.H.Told.stands c.args.self.now.layout _ _ _ _ _ c.args.self.now.key c.requires.outside.0
      (ap (λ s. s.me.0.inside) e ∙ c.requires.other_outside.0),
)

pub invariant_of-seat : goal.invariant_of-seat
invariant_of-seat g c =
    let s = c.args.seat.now in let v = s.seat.me.0 in let o = c.into_parts-other.result in let w = o.0.me.0 in record {
      of_view = fits_as s.number o.1 s.sent.items (joined v w) c.join_seat.new.seat.me.0
          (ap (λ m. m.0) c.join_seat.ensures.2) (record {
            numbered = s.of_view.numbered;
            lettered = first_added v.letters w.letters s.letter s.of_view.lettered c.if-is_none.ensures
                ∙ subst (λ p. first_letter p.0.me.0.letters ≡ p.1) (sym c.into_parts-other.ensures)
                c.args.other.of_view.lettered;
            counted = s.of_view.counted;
          });
    }

pub invariant_of-seat-else-is_none : goal.invariant_of-seat-else-is_none
invariant_of-seat-else-is_none g c =
    let s = c.args.seat.now in let v = s.seat.me.0 in let w = c.into_parts-other.result.0.me.0 in record {
      of_view = fits_as s.number s.letter s.sent.items (joined v w) c.join_seat.new.seat.me.0
          (ap (λ m. m.0) c.join_seat.ensures.2) (record {
            numbered = s.of_view.numbered;
            lettered = first_kept v.letters w.letters s.letter s.of_view.lettered c.if-is_none.ensures
                ∙ s.of_view.lettered;
            counted = s.of_view.counted;
          });
    }
