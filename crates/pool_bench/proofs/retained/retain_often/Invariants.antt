use Rattle.pool_table.specs.Counts.{HasCount}
use Rattle.shared_pool.specs.SeatViews.{view_of}
use Rattle.seat_work.specs.Hands.{empty_hand}
use Rattle.seat_work.specs.Works.{Goes}
use Rattle.pool_bench.proofs.retained.retain_often.Given as goal

abbrev pub invariant-loop : goal.invariant-loop
invariant-loop l = Goes l.pool empty_hand 0 0 l.initial.seat l.seat × HasCount l.root (view_of l.seat)
