use Rattle.std.proofs.Common.{◌-◌, ◌*◌, ◌≤◌, vec_len}
use Rattle.shared_pool.specs.SeatViews.{view_of}
use Rattle.seat_work.specs.Hands.{empty_hand}
use Rattle.seat_work.specs.Changes.{Holds}
use Rattle.seat_work.specs.Works.{Goes}
use Rattle.pool_bench.proofs.batches.release_all.Given as goal

abbrev pub decreases-loop-root : goal.decreases-loop-root
decreases-loop-root g l = vec_len l.runner.roots

abbrev pub invariant-loop-root : goal.invariant-loop-root
invariant-loop-root g l =
    (vec_len l.runner.roots ≤ vec_len l.initial.runner.roots)
    × Goes l.pool empty_hand (4 * (vec_len l.initial.runner.roots - vec_len l.runner.roots)) 0 l.initial.runner.seat
    l.runner.seat × Holds l.runner.roots.items (view_of l.runner.seat)
