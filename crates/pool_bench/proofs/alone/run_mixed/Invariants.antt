use Rattle.std.proofs.Common.{◌≡◌, ◌-◌, ◌*◌, ◌≤◌}
use Rattle.shared_pool.specs.SeatViews.{view_of}
use Rattle.seat_work.specs.Hands.{empty_hand}
use Rattle.seat_work.specs.Works.{Works}
use Rattle.pool_bench.specs.Runs.{block_turns, block_moves}
use Rattle.pool_bench.proofs.alone.run_mixed.Given as goal

abbrev pub invariant-loop-done : goal.invariant-loop-done
invariant-loop-done g l =
    (l._done ≤ l.blocks) × Works l.pool empty_hand (block_turns * (l.blocks - l._done))
    (block_moves * (l.blocks - l._done)) l.seat
    × ((view_of l.seat).own.number ≡ (view_of l.initial.seat).own.number)
