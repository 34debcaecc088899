use mathlib.Core.Option.{none}
use Rattle.atomic_table.specs.Table.{step}
use Rattle.pool_table.specs.Slots.{slots_of}
use Rattle.pool_table.specs.Words.{count_word_of}
use Rattle.pool_table.proofs.SeatFields.{fits_releases}
use Rattle.pool_table.proofs.table.PoolTable.release.Goals as goal

pub invariant_of-seat : goal.invariant_of-seat
invariant_of-seat g c =
    let s = c.args.seat.now in let v = s.seat.me.0 in
    let shape = c.args.self.now.layout.shape in
    record {
      of_view = fits_releases s.number s.letter s.sent.items c.args.root
          (step (slots_of shape) (count_word_of shape c.args.root.place) 2 0 none) s.seat.me
          c.release_word-word.new.seat.me c.release_word-word.result c.release_word-word.ensures.told s.of_view;
    }
