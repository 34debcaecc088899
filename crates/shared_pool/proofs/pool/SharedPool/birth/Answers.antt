use Rattle.shared_pool.proofs.BirthCalls.{never_worn}
use Rattle.shared_pool.proofs.pool.SharedPool.birth.Goals as goal

pub unreachable-requires : goal.unreachable-requires
unreachable-requires c =
    never_worn c.args.self.now c.args.handle.place c.args.seat.now c.in-Err.ensures.worn c.requires.short
