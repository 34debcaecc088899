use Rattle.std.proofs.Common.{arith}
use Rattle.seat_tries.proofs.TriedNotes.{arena_only}
use Rattle.seat_tries.proofs.allocation.allocate_at.Goals as goal

pub returns-then-class-ge-CACHED_CLASSES-clause-allots : goal.returns-then-class-ge-CACHED_CLASSES-clause-allots
returns-then-class-ge-CACHED_CLASSES-clause-allots c =
    let a = c.args in let old = a.seat.now in let next = c.from_arena in
    arena_only a.pool.now old old next.new.seat a.class a.size a.watch next.result.0 next.result.1 a.handle.place
    (omega arith) next.ensures.allots
