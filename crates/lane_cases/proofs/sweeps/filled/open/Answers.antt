use Rattle.shared_pool.specs.Opening.{IsOpened}
use Rattle.pool_table.proofs.Lists.{two_last}
use Rattle.lane_cases.specs.declared.sweeps.filled.TheConstants.{LAYOUT}
use Rattle.lane_cases.proofs.sweeps.filled.open.Goals as goal

pub returns-clause-rooms : goal.returns-clause-rooms
returns-clause-rooms c = c.in_ok-pool.ensures.seats.rooms

pub returns-clause-first : goal.returns-clause-first
returns-clause-first c = let s = c.in_ok-pool.ensures.seats in
    (two_last (IsOpened LAYOUT c.in_ok-pool.pool) c.in_ok-pool.seats.items
    c.pop.new.self.items c.pop-2.new.self.items c.in-Some-pop.first c.in-Some.second s.many c.in-Some.ensures.items
    c.in-Some-pop.ensures.items s.each).0

pub returns-clause-second : goal.returns-clause-second
returns-clause-second c = let s = c.in_ok-pool.ensures.seats in
    (two_last (IsOpened LAYOUT c.in_ok-pool.pool) c.in_ok-pool.seats.items
    c.pop.new.self.items c.pop-2.new.self.items c.in-Some-pop.first c.in-Some.second s.many c.in-Some.ensures.items
    c.in-Some-pop.ensures.items s.each).1
