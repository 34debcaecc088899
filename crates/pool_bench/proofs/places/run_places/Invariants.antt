use Rattle.std.proofs.Common.{◌≡◌, ◌+◌, ◌-◌, ◌*◌, ◌≤◌, vec_len}
use Rattle.shared_pool.specs.SeatViews.{view_of}
use Rattle.seat_work.specs.Hands.{empty_hand}
use Rattle.seat_work.specs.Changes.{Holds}
use Rattle.seat_work.specs.Works.{Works}
use Rattle.pool_bench.proofs.places.run_places.Given as goal

abbrev pub invariant-loop-done : goal.invariant-loop-done
invariant-loop-done g l =
    (l.done ≤ l.blocks)
    × Works l.pool empty_hand (16 * (l.blocks - l.done) + 4 * vec_len l.runner.roots) (l.blocks - l.done) l.runner.seat
    × ((view_of l.runner.seat).own.number ≡ (view_of l.initial.runner.seat).own.number)
    × Holds l.runner.roots.items (view_of l.runner.seat)
    × (vec_len l.runner.roots ≤ 64)
