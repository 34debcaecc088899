use Rattle.std.proofs.Common.{List, refl, sym, subst, arith}
use Rattle.pool_law.specs.declared.id.RootId.{RootId}
use Rattle.shared_pool.specs.SeatViews.{view_of}
use Rattle.seat_work.specs.Changes.{Holds}
use Rattle.pool_bench.proofs.places.run_places.Goals as goal

pub loop-done-init : goal.loop-done-init
loop-done-init g c =
    let seat = c.args.runner.now.seat in let may = c.requires.may in (
      omega arith,
      record {
        seat = may.seat;
        held = may.held;
        paid = may.paid;
        turns_left = omega arith;
        moves_left = omega arith;
      },
      refl,
      subst (λ (xs : List RootId). Holds xs (view_of seat)) (sym c.clear.ensures.items) may.paid,
      omega arith,
    )
