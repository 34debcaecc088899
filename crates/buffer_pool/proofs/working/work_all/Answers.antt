use Rattle.std.proofs.Common.{◌≡◌, List, length, ap, ◌∙◌, sym, subst}
use Rattle.pool_member.specs.declared.member.Member.{Member}
use Rattle.pool_member.specs.Threads.{IsThread}
use Rattle.buffer_pool.specs.Working.{HaveWorked}
use Rattle.buffer_pool.proofs.Worked.{have_worked, written_back}
use Rattle.buffer_pool.proofs.working.work_all.Goals as goal

pub returns : goal.returns
returns g c =
    let pool = c.args.pool.now in let did = g.W.Work.did c.args.work.now in let old = c.args.threads.items in
    let new = c.for_each_mut.new.s in
    let many : length new ≡ length old = c.for_each_mut.auto.s ∙ ap (λ xs. length xs) c.as_mut_slice.ensures.value in
    let worked = have_worked did pool c.as_mut_slice.result.now new c.for_each_mut.auto.s
    (λ k d lt.
    (let one = (c.for_each_mut.ensures k d lt).1 in
    subst (λ (x : Member × Member). did pool x.0 x.1 × IsThread pool x.1)
    (λ i. (one.argument_is i, one.left i)) one.call)) in
    let back = written_back c.args.threads.len new old (many ∙ sym c.args.threads.ok.0) in
    subst (λ (x : List Member × List Member). HaveWorked did pool x.0 x.1)
    (λ i. (c.as_mut_slice.ensures.value i, sym back i)) worked
