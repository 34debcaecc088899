use Rattle.std.proofs.Common.{arith}
use Rattle.pool_law.specs.Patterns.{grow_with}
use Rattle.shared_pool.specs.SeatLanes.{lane_of}
use Rattle.shared_pool.specs.SeatViews.{view_of}
use Rattle.seat_work.specs.Regrowths.{grow_over}
use Rattle.seat_work.proofs.RegionNotes.{taken_only}
use Rattle.pool_member.specs.Growths.{grow_taken}
use Rattle.pool_member.proofs.Asked.{regrows_from}
use Rattle.pool_member.proofs.work.attempted.ask_out.Goals as goal

pub returns-then-class-ge-CACHED_CLASSES-clause-reads : goal.returns-then-class-ge-CACHED_CLASSES-clause-reads
returns-then-class-ge-CACHED_CLASSES-clause-reads c =
    let a = c.args in let next = c.from_arena in let lane = lane_of a.seat.now in
    let shape = a.pool.now.table.layout.shape in
    regrows_from (grow_over shape lane a.class a.root a.size) (grow_taken shape lane a.class a.root a.size)
    next.result.1 (view_of a.seat.now) (view_of next.new.seat)
    (taken_only shape lane a.class (grow_with a.root a.size) (omega arith)) next.result.0 next.ensures.reads
