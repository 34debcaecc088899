use Rattle.std.proofs.Common.{ap, ◌∙◌, subst}
use Rattle.std.specs.Prelude.{⊤}
use Rattle.pool_c.specs.Growing.{Touches}
use Rattle.pool_c.specs.Holding.{Holding}
use Rattle.pool_c.proofs.CallLaws.{a_call, nothing_out, told_as}
use Rattle.pool_c.proofs.growing_exports.pool_touch.Goals as goal

pub returns : goal.returns
returns c =
    let a = c.touch-answer in let same = c.deref_mut.ensures.value in let does = Touches {A = ⊤} c.args.buffer.now in
    let takes = c.in-Ok.ensures.takes in
    a_call c.args.thread.now c.put.new.self tt tt _ does c.in-Ok.held.value a.new.self
    a.result c.in-Ok.ensures.answers (record { ready = takes.1; held = takes.0 }) c.put.ensures.0 c.put.ensures.1
    (a.ensures.pool ∙ ap (λ (h : Holding). h.common) same) (told_as c.code-2.result a.result c.code-2.ensures)
    (nothing_out a.result) (subst (λ (h : Holding). does h.common h.member a.new.self.member a.result) same
    a.ensures.touches)
