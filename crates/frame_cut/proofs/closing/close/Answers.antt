use Rattle.std.proofs.Common.{List, sym, subst}
use Rattle.std.specs.Prelude.{All}
use Rattle.shared_pool.specs.declared.pool.SharedPool.{SharedPool}
use Rattle.shared_pool.specs.declared.seat.PoolSeat.{PoolSeat}
use Rattle.shared_pool.specs.Seats.{IsPoolSeat}
use Rattle.frame_cut.proofs.GatherLaws.{done_seats}
use Rattle.frame_cut.proofs.LiveLaws.{done_alone, none_live}
use Rattle.frame_cut.proofs.closing.close.Goals as goal

pub returns-in-Ok-clause-live : goal.returns-in-Ok-clause-live
returns-in-Ok-clause-live g c =
    let pool = c.args.pool in let seats = c.args.seats.items in
    none_live pool.table.layout.shape seats c.in-Ok.ensures.whole (done_alone pool seats c.requires.done)
    c.requires.spent

pub abandon-requires : goal.abandon-requires
abandon-requires g c =
    let e = c.in-Err.ensures.err in
    record {
      seats =
          subst (λ (x : SharedPool × List PoolSeat). All (IsPoolSeat x.0) x.1) (λ i. (sym e.0 i, sym e.1 i))
          (done_seats c.args.pool c.args.seats.items c.requires.done);
    }
