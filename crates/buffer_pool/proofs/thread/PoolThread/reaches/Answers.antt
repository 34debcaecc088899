use Rattle.std.proofs.Common.{subst, arith}
use Rattle.std.specs.Prelude.{IfSome, Option}
use Rattle.pool_law.specs.declared.id.RootId.{RootId}
use Rattle.shared_pool.specs.declared.pool.SharedPool.{SharedPool}
use Rattle.pool_member.specs.declared.member.Member.{Member}
use Rattle.pool_member.specs.Threads.{IsThread}
use Rattle.pool_member.specs.Windows.{HasPlace}
use Rattle.buffer_pool.proofs.thread.PoolThread.reaches.Goals as goal

-- the thread has a place for each of the pool's, and the buffer's root is at one of these
pub reaches_at-requires : goal.reaches_at-requires
reaches_at-requires g c =
    let pool = c.pool.inside.shared in let m : Member = c.self.inside.member in
    let root : RootId = c.buffer.inside.view.at.root in
    let is : IsThread pool m =
    subst (λ (o : Option SharedPool). IfSome o (λ p. IsThread p m)) c.pool.invariant.named c.self.invariant in
    let at : HasPlace pool root =
    subst (λ (o : Option SharedPool). IfSome o (λ p. HasPlace p root)) c.pool.invariant.named c.buffer.invariant in
    let a = is.places in let b = at in omega (arith, a, b)
