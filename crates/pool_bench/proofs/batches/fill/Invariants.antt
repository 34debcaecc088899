use Rattle.std.proofs.Common.{◌*◌, ◌≤◌, vec_len}
use Rattle.shared_pool.specs.SeatViews.{view_of}
use Rattle.seat_work.specs.Hands.{empty_hand}
use Rattle.seat_work.specs.Changes.{Holds}
use Rattle.seat_work.specs.Works.{Goes}
use Rattle.pool_bench.proofs.batches.fill.Given as goal

abbrev pub invariant-loop-done : goal.invariant-loop-done
invariant-loop-done g l =
    (l.done ≤ l.count) × Goes l.pool empty_hand (6 * l.done) 0 l.initial.runner.seat l.runner.seat
    × Holds l.runner.roots.items (view_of l.runner.seat)
    × (vec_len l.runner.roots ≤ l.done)
