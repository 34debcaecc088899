use Rattle.std.proofs.Common.{ap}
use Rattle.pool_law.specs.declared.note.RefDid.TheVariants.{Vacated}
use Rattle.pool_table.specs.Counts.{with_ref}
use Rattle.pool_table.proofs.SeatFields.{fits_as, fits_ref}
use Rattle.pool_table.proofs.table.PoolTable.vacate.Goals as goal

pub invariant_of-seat : goal.invariant_of-seat
invariant_of-seat g c =
    let s = c.args.seat.now in let v = s.seat.me.0 in
    record {
      of_view = fits_as s.number s.letter s.sent.items (with_ref v c.args.token.root Vacated v.moves)
          c.vacate_word.new.seat.me.0
          (ap (λ m. m.0) c.vacate_word.ensures.noted)
          (fits_ref s.number s.letter s.sent.items v c.args.token.root Vacated v.moves s.of_view);
    }
