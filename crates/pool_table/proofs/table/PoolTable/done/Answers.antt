use Rattle.std.proofs.Common.{◌∷◌, sym, ap, ◌∙◌}
use Rattle.std.specs.Prelude.{Some, None}
use Rattle.atomic_table.specs.Table.{rest}
use Rattle.pool_table.proofs.Calls.{word_within, dones_as}
use Rattle.atomic_table.specs.Table.{step}
use Rattle.pool_table.specs.Slots.{slots_of}
use Rattle.pool_table.proofs.SeatFields.{fits_as, fits_dones}
use mathlib.Core.Option.{none}
use Rattle.pool_table.proofs.table.PoolTable.done.Goals as goal

pub put_back-requires-clause-empty : goal.put_back-requires-clause-empty
put_back-requires-clause-empty g c =
    let e = c.requires.section.inside.holds in e ∙ (λ q. (c.args.section.slot.home, None) ∷ rest (sym e q))

pub fetch_add-found-requires : goal.fetch_add-found-requires
fetch_add-found-requires g c = (
  c.put_back.ensures.same.0 ∙ c.requires.own,
  word_within c.args.self.now.layout.shape c.args.section.object _ _ c.requires.section.inside.object
      c.requires.section.inside.word_is c.args.self.now.words,
  dones_as g.H.Told.stands c.args.self.now.layout _ c.args.section.object _ c.args.section.slot c.args.seat.now.seat.id
      _ c.args.seat.now.seat.me _ c.requires.section.history c.args.section.home g.N.Named.note c.args.self.now.key
      c.args.self.now.slots c.requires.section.inside
      c.put_back.ensures.same.1 (c.put_back.ensures.back
      ∙ ap (λ r. (c.args.seat.now.seat.me.0, (c.args.section.slot.home, Some c.args.section.home) ∷ rest r))
      c.requires.section.inside.holds)
      c.requires.turn c.requires.lane c.requires.hands c.requires.section.follows c.requires.section.stands_for,
)

pub invariant_of-seat : goal.invariant_of-seat
invariant_of-seat g c =
    let s = c.args.seat.now in let v = s.seat.me.0 in
    record {
      of_view = fits_dones s.number s.letter s.sent.items c.args.self.now.layout.shape c.args.section.object _
          c.requires.section.history g.N.Named.note
          (step (slots_of c.args.self.now.layout.shape) c.args.section.slot.word 1 0 none) c.put_back.new.seat.me
          c.fetch_add-found.new.seat.me c.fetch_add-found.result c.requires.section.inside.object
          (ap (λ m. m.0.inside) c.put_back.ensures.back ∙ c.requires.section.inside.inside)
          c.fetch_add-found.ensures.2.0
          (fits_as s.number s.letter s.sent.items v c.put_back.new.seat.me.0
          (ap (λ m. m.0) c.put_back.ensures.back)
          s.of_view);
    }
