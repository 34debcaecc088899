use Rattle.shared_pool.specs.Seats.{IsPoolSeat}
use Rattle.counted_view.specs.NestSeats.{CountsRoot}
use Rattle.pool_cases.proofs.nests.a_view_is_held_so_often_and_no_more.Given as goal

abbrev pub invariant-loop : goal.invariant-loop
invariant-loop g l = record { seat : IsPoolSeat l.pool l.seat; counts : CountsRoot l.nest l.seat }
