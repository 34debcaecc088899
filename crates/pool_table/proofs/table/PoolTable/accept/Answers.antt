use Rattle.pool_table.proofs.Calls.{accepts_as}
use Rattle.pool_table.proofs.Words.{some_word}
use Rattle.std.proofs.Common.{sym, ap, ◌∙◌, subst}
use Rattle.pool_table.specs.Steps.{share_added, IsShare}
use Rattle.pool_table.proofs.SeatFields.{fits_as}
use Rattle.pool_table.proofs.table.PoolTable.accept.Goals as goal

pub join_seat-requires : goal.join_seat-requires
join_seat-requires g c = let e = ap (λ p. p.0) c.into_parts-share.ensures in (
  c.requires.own,
  ap (λ s. s.table_id) e ∙ c.requires.share_own,
  ap (λ s. s.me.1) e ∙ c.requires.share_outside.1,
  some_word c.args.self.now.layout.shape _ c.args.self.now.shape.some_lane c.args.self.now.words,
  accepts_as g.H.Told.stands c.args.self.now.layout _ _ _ _ _ c.args.self.now.key c.requires.outside.0
      (subst (λ s. IsShare s.me.0) (sym e) c.requires.share),
)

pub invariant_of-seat : goal.invariant_of-seat
invariant_of-seat g c =
    let s = c.args.seat.now in let v = s.seat.me.0 in
    record {
      of_view = fits_as s.number s.letter s.sent.items (share_added c.into_parts-share.result.0.me.0.moves v)
          c.join_seat.new.seat.me.0
          (ap (λ m. m.0) c.join_seat.ensures.2)
          (record { numbered = s.of_view.numbered; lettered = s.of_view.lettered; counted = s.of_view.counted });
    }
