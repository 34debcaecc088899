use Rattle.std.proofs.Common.{arith}
use Rattle.pool_law.specs.Patterns.{give_back, put_away}
use Rattle.shared_pool.specs.SeatViews.{view_of}
use Rattle.seat_work.proofs.Noting.{notes_from}
use Rattle.seat_work.proofs.PartReads.{put_uncached}
use Rattle.pool_member.specs.Pendings.{left_of}
use Rattle.pool_member.proofs.work.attempted.put_back.Goals as goal

pub returns-then-region-ge-CACHED_CLASSES-clause-reads : goal.returns-then-region-ge-CACHED_CLASSES-clause-reads
returns-then-region-ge-CACHED_CLASSES-clause-reads c =
    let id = c.args.region.id in let last = c.give in
    notes_from (give_back id) (left_of last.result) (view_of c.args.seat.now) (view_of last.new.seat) (put_away id)
    (put_uncached id (omega arith)) last.ensures.reads
