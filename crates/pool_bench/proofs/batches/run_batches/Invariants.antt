use Rattle.std.proofs.Common.{◌≡◌, ◌-◌, ◌*◌, ◌/◌, ◌≤◌}
use Rattle.shared_pool.specs.SeatViews.{view_of}
use Rattle.seat_work.specs.Hands.{empty_hand}
use Rattle.seat_work.specs.Works.{Works}
use Rattle.pool_bench.proofs.batches.run_batches.Given as goal

abbrev pub invariant-loop-done : goal.invariant-loop-done
invariant-loop-done g l =
    (l.done ≤ l.blocks / 512) × Works l.pool empty_hand (16 * (l.blocks - 512 * l.done)) (l.blocks - 512 * l.done)
    l.runner.seat
    × ((view_of l.runner.seat).own.number ≡ (view_of l.initial.runner.seat).own.number)
