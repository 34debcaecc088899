use mathlib.Core.Option.{none}
use Rattle.atomic_table.specs.Table.{step}
use Rattle.pool_table.specs.Slots.{slots_of}
use Rattle.pool_table.specs.Words.{count_word_of}
use Rattle.pool_law.specs.declared.id.RootId.{RootId}
use Rattle.pool_table.proofs.SeatFields.{fits_births}
use Rattle.pool_table.proofs.table.PoolTable.birth.Goals as goal

pub invariant_of-seat : goal.invariant_of-seat
invariant_of-seat g c =
    let s = c.args.seat.now in let v = s.seat.me.0 in
    let shape = c.args.self.now.layout.shape in
    let root : RootId = record { place = c.args.place; generation = 0; capacity = c.args.capacity } in
    record {
      of_view = fits_births s.number s.letter s.sent.items root
          (step (slots_of shape) (count_word_of shape c.args.place) 4294967297 0 none) s.seat.me
          c.birth_word-word.new.seat.me c.birth_word-word.result c.birth_word-word.ensures.told s.of_view;
    }
