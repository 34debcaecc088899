use Rattle.std.proofs.Common.{ap, ◌∙◌, subst}
use Rattle.pool_c.specs.Answers.{Allocs}
use Rattle.pool_c.specs.Holding.{Holding}
use Rattle.pool_c.proofs.CallLaws.{a_call, told_as}
use Rattle.pool_c.proofs.exports.pool_alloc.Goals as goal

pub returns : goal.returns
returns c =
    let a = c.alloc-answer in let same = c.deref_mut.ensures.value in let does = Allocs c.args.size in
    let takes = c.in-Ok.ensures.takes in
    a_call c.args.thread.now c.put.new.self c.args.out.now c.give.new.out _ does c.in-Ok.held.value a.new.self
    a.result c.in-Ok.ensures.answers (record { ready = takes.1; held = takes.0 }) c.put.ensures.0 c.put.ensures.1
    (a.ensures.pool ∙ ap (λ (h : Holding). h.common) same) (told_as c.give.result a.result c.give.ensures.code)
    c.give.ensures.out (subst (λ (h : Holding). does h.common h.member a.new.self.member a.result) same
    a.ensures.allocs)
