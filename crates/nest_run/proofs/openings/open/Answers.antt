use Rattle.std.proofs.Common.{arith}
use Rattle.shared_pool.specs.Opening.{IsOpened}
use Rattle.shared_pool.proofs.Trials.{only_one}
use Rattle.nest_run.specs.declared.openings.TheConstants.{LAYOUT}
use Rattle.nest_run.proofs.openings.open.Goals as goal

pub returns-clause-seat : goal.returns-clause-seat
returns-clause-seat c =
    let s = c.in_ok-pool.ensures.seats in
    only_one (IsOpened LAYOUT c.in_ok-pool.pool 0) c.in_ok-pool.seats.items c.pop.new.self.items c.in-Some.seat
    s.many c.in-Some.ensures.items (s.each 0 (omega arith))
