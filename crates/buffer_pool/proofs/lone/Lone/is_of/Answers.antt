use Rattle.std.proofs.Common.{◌≡◌, rules, true, subst}
use Rattle.std.specs.Prelude.{IfSome, Option}
use Rattle.shared_pool.specs.declared.pool.SharedPool.{SharedPool}
use Rattle.pool_member.specs.declared.member.Member.{Member}
use Rattle.pool_member.specs.Counting.{is_alone}
use Rattle.pool_member.specs.Threads.{IsThread}
use Rattle.buffer_pool.proofs.lone.Lone.is_of.Goals as goal

pub returns-then-is_alone-clause-alone : goal.returns-then-is_alone-clause-alone
returns-then-is_alone-clause-alone g c =
    let pool = c.pool.inside.shared in let root = c.args.self.now.at.root in
    let kept : is_alone c.args.thread.now.account.counts root ≡ true = search rules in
    let inside : IsThread pool c.thread.inside.member =
    subst (λ (o : Option SharedPool). IfSome o (λ p. IsThread p c.thread.inside.member)) c.pool.invariant.named
    c.thread.invariant in
    let is = subst (λ (m : Member). IsThread pool m) c.thread.view_is inside in
    is.alone root kept
