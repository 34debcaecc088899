use Rattle.std.proofs.Common.{◌≡◌, sym, ap, ◌∙◌, subst}
use Rattle.pool_table.specs.declared.views.SeatView.{SeatView}
use Rattle.pool_table.specs.Learned.{KnowsCounts}
use Rattle.pool_table.specs.Letters.{first_letter}
use Rattle.pool_table.specs.Mailing.{MayReceive}
use Rattle.pool_table.specs.Steps.{receives_with}
use Rattle.pool_table.proofs.Calls.{receives_as}
use Rattle.pool_table.proofs.SeatFields.{fits_as, fits_receives, first_received, parcel_held}
use Rattle.pool_table.proofs.Words.{some_word}
use Rattle.pool_table.proofs.table.PoolTable.receive.Goals as goal

pub join_seat-requires : goal.join_seat-requires
join_seat-requires g c =
    let e = ap (λ m. m.0) c.look_round.ensures.unchanged in let d = ap (λ p. p.0) c.into_parts-other.ensures in (
      c.look_round.ensures.same.0 ∙ c.requires.own,
      ap (λ s. s.table_id) d ∙ c.requires.other_own,
      ap (λ s. s.me.1) d ∙ c.requires.other_outside.1,
      some_word c.args.self.now.layout.shape _ c.args.self.now.shape.some_lane c.args.self.now.words,
      receives_as g.H.Told.stands c.args.self.now.layout _ c.args.self.now.key _ _ _ _
          (ap (λ v. v.inside) e ∙ c.requires.outside.0)
          (subst (λ (v : SeatView). MayReceive v c.into_parts-other.result.0.me.0) (sym e)
          (subst (λ (w : SeatView). MayReceive c.args.seat.now.seat.me.0 w) (sym (ap (λ s. s.me.0) d)) c.requires.may)),
    )

pub invariant_of-seat : goal.invariant_of-seat
invariant_of-seat g c =
    let s = c.args.seat.now in let v = s.seat.me.0 in let w = c.into_parts-other.result.0.me.0 in
    let d = ap (λ p. p.0) c.into_parts-other.ensures in let e = ap (λ m. m.0) c.look_round.ensures.unchanged in record {
      of_view = fits_as s.number s.letter s.sent.items (receives_with v w) c.look_round-2.new.seat.me.0
          (ap (λ m. m.0) (c.look_round-2.ensures.unchanged ∙ c.join_seat.ensures.2)
          ∙ ap (λ v. receives_with v w) e)
          (fits_receives s.number s.letter s.sent.items v w
          (subst (λ (w : SeatView). MayReceive v w) (sym (ap (λ s. s.me.0) d)) c.requires.may) s.of_view);
    }

pub returns-clause-holds : goal.returns-clause-holds
returns-clause-holds g c =
    let l = c.args.self.now.layout in let v = c.args.seat.now.seat.me.0 in let w = c.into_parts-other.result.0.me.0 in
    let lettered = subst (λ p. first_letter p.0.me.0.letters ≡ p.1) (sym c.into_parts-other.ensures)
    c.args.other.of_view.lettered in let u = c.look_round-2.new.seat.me.0 in let x = c.in-Some.letter in
    let e = ap (λ m. m.0) c.look_round.ensures.unchanged in
    parcel_held l v u x (subst (KnowsCounts l) e c.look_round.ensures.knows) c.look_round-2.ensures.knows
    (ap (λ m. m.0) (c.look_round-2.ensures.unchanged ∙ c.join_seat.ensures.2)
    ∙ (ap (λ v. receives_with v w) e ∙ first_received v w.letters x (lettered ∙ c.in-Some.is)))
