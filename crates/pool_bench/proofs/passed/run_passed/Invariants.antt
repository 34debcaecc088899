use Rattle.std.proofs.Common.{◌≡◌, ◌-◌, ◌*◌, ◌≤◌}
use Rattle.shared_pool.specs.SeatViews.{view_of}
use Rattle.seat_work.specs.Hands.{empty_hand}
use Rattle.seat_work.specs.Works.{Works}
use Rattle.pool_bench.specs.Mails.{HasMail}
use Rattle.pool_bench.proofs.passed.run_passed.Given as goal

abbrev pub invariant-loop-done : goal.invariant-loop-done
invariant-loop-done g l =
    (l.done ≤ l.passes)
    × Works l.pool empty_hand (16 * (l.passes - l.done)) (l.passes - l.done) l.seat
    × HasMail l.pool (l.passes - l.done) l.seat
    × ((view_of l.seat).own.number ≡ (view_of l.initial.seat).own.number)
