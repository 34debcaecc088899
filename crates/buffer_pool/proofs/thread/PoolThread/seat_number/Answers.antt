use Rattle.std.proofs.Common.{◌≡◌, Some, subst}
use Rattle.std.specs.Prelude.{IfSome, Option}
use Rattle.shared_pool.specs.declared.pool.SharedPool.{SharedPool}
use Rattle.shared_pool.specs.SeatViews.{view_of}
use Rattle.pool_member.specs.declared.member.Member.{Member}
use Rattle.pool_member.specs.Threads.{IsThread}
use Rattle.buffer_pool.proofs.thread.PoolThread.seat_number.Goals as goal

-- the seat of a thread of the pool has its number
pub returns : goal.returns
returns g c =
    let pool = c.pool.inside.shared in let m : Member = c.self.inside.member in
    let is : IsThread pool m =
    subst (λ (o : Option SharedPool). IfSome o (λ p. IsThread p m)) c.pool.invariant.named c.self.invariant in
    let own : (view_of m.seat).own.number ≡ Some m.account.lane = is.number in
    let it = c.number.ensures in let some = c.in-Some.is in
    cc (own, it, some, c.self.view_is)
