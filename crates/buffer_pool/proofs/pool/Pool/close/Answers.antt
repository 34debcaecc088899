use Rattle.std.proofs.Common.{List, sym, subst}
use Rattle.std.specs.Prelude.{All}
use Rattle.shared_pool.specs.declared.pool.SharedPool.{SharedPool}
use Rattle.pool_member.specs.declared.member.Member.{Member}
use Rattle.pool_member.specs.Threads.{IsThread}
use Rattle.buffer_pool.proofs.pool.Pool.close.Goals as goal

pub threads_of-threads-requires-clause-members : goal.threads_of-threads-requires-clause-members
threads_of-threads-requires-clause-members g c =
    let back = c.in-Err.ensures.back in
    subst (λ (x : SharedPool × List Member). All (IsThread x.0) x.1) (λ i. (sym back.0 i, sym back.1 i))
    c.members_of-members.ensures.members
