use Rattle.std.proofs.Common.{w32, to_z, of_z, ap, ◌∙◌, subst}
use Rattle.pool_c.specs.Holding.{Holding}
use Rattle.pool_c.specs.ParcelHandles.{done, PartsInto}
use Rattle.pool_c.proofs.CallLaws.{a_call, nothing_out, told_as}
use Rattle.pool_c.proofs.Passed.{parts_if, parts_into, same_told, unboxed}
use Rattle.pool_c.proofs.parcel_exports.pool_part.Goals as goal

pub returns-clause-parts : goal.returns-clause-parts
returns-clause-parts c =
    let a = c.part-made in let same = c.deref_mut.ensures.value in let takes = c.in-Ok.ensures.takes in
    let b = c.args.buffer.now in let to = c.args.to in let was = c.args.out.now in let is = c.give.new.self in
    let answer = done (unboxed a.result) in let does = PartsInto b to was is in
    parts_if b to c.args.thread.now c.put.new.self was is (to_z w32 (of_z w32 c.give.result))
    (c.is_empty.ensures.0 c.if-not-is_empty.false)
    (a_call c.args.thread.now c.put.new.self tt tt _ does c.in-Ok.held.value a.new.self answer c.in-Ok.ensures.answers
    (record { ready = takes.1; held = takes.0 }) c.put.ensures.0 c.put.ensures.1
    (a.ensures.pool ∙ ap (λ (h : Holding). h.common) same)
    (told_as c.give.result answer (c.give.ensures.code ∙ same_told a.result)) (nothing_out answer)
    (subst (λ (h : Holding). does h.common h.member a.new.self.member answer) same
    (parts_into b to was is _ _ _ a.result c.give.ensures.out a.ensures.refused)))
