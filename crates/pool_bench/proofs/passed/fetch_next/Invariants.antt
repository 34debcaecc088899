use Rattle.seat_work.specs.Changes.{no_change}
use Rattle.seat_work.specs.Hands.{empty_hand}
use Rattle.seat_work.specs.Works.{Proceeds}
use Rattle.pool_bench.proofs.passed.fetch_next.Given as goal

abbrev pub invariant-loop : goal.invariant-loop
invariant-loop g l = Proceeds l.pool empty_hand 0 0 no_change l.initial.seat l.seat
