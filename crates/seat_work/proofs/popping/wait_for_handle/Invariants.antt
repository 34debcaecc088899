use Rattle.std.proofs.Common.{◌≡◌}
use Rattle.shared_pool.specs.SeatViews.{view_of, SameSeat}
use Rattle.shared_pool.specs.Seats.{IsPoolSeat}
use Rattle.seat_work.proofs.popping.wait_for_handle.Given as goal

abbrev pub invariant-loop : goal.invariant-loop
invariant-loop g l =
    IsPoolSeat l.pool l.seat × (view_of l.seat ≡ view_of l.initial.seat) × SameSeat l.initial.seat l.seat
