use Rattle.std.proofs.Common.{◌≡◌, ◌<◌, [], ◌∷◌, ◌++◌, length, map, sym, ap, ◌∙◌, subst, arith}
use Rattle.std.specs.Arc.{arc_value}
use Rattle.std.specs.Prelude.{All, box_value, remove}
use Rattle.pool_member.specs.Threads.{IsThread}
use Rattle.pool_member.proofs.Lists.{all_pushed}
use Rattle.pool_c.specs.declared.held.Common.{Common}
use Rattle.pool_c.specs.Closing.{AreOf}
use Rattle.pool_c.specs.Holding.{behind, Holding}
use Rattle.pool_c.proofs.Unboxed.{first_is, more_out, rest_are}
use Rattle.pool_c.proofs.closing.unboxed.Goals as goal

pub loop-more-init : goal.loop-more-init
loop-more-init c =
    let all = c.args.all.items in let b = c.remove.result in let first = c.remove.ensures.value in
    let some : 0 < length all = omega (arith, c.requires.some) in let one = c.requires.one in
    let into = c.into_inner.ensures in let parts = c.apart-common.ensures.parts in
    let x = arc_value c.apart-common.result.0 in let m = c.apart-common.result.1 in
    let of : x ≡ b.value.common = parts.0 ∙ ap (λ (h : Holding). h.common) into in
    let is : m ≡ b.value.member = parts.1 ∙ ap (λ (h : Holding). h.member) into in
    let pushed = c.push_reserved.ensures.items ∙ ap (λ ms. ms ++ m ∷ []) c.requires.empty in
    let none = c.args.members.ok.0 ∙ ap length c.requires.empty in
    record {
      left = omega arith;
      made = omega arith;
      room = omega arith;
      of =
          subst (λ bs. AreOf x (map box_value bs)) (sym c.remove.ensures.items)
          (subst (λ y. AreOf y (map box_value (remove all 0))) (sym (of ∙ first_is one.common all b some first one.of))
          (rest_are one.common all one.of));
      threads =
          subst (All (IsThread x.shared)) (sym pushed)
          (all_pushed (IsThread x.shared) [] m (λ k d lt. absurd (omega (arith, lt))) c.apart-common.ensures.thread);
      held =
          ap (λ ms. map (behind x) ms ++ map box_value c.remove.new.self.items) pushed
          ∙ ap (λ bs. map (behind x) ([] ++ m ∷ []) ++ map box_value bs) c.remove.ensures.items
          ∙ more_out all b x m first of is [] some;
    }

pub loop-more-preserved : goal.loop-more-preserved
loop-more-preserved c =
    let l = c.loop-more in let inv = l.invariant in let all = l.all.items in let taken = c.remove-in-loop-more in
    let b = taken.result in let first = taken.ensures.value in let some : 0 < length all = omega arith in
    let into = c.into_inner-in-loop-more.ensures in let parts = c.apart-own.ensures.parts in
    let x = arc_value c.apart-common.result.0 in let m = c.apart-own.result.1 in
    let of : x ≡ b.value.common = sym (first_is x all b some first inv.of) in
    let is : m ≡ b.value.member = parts.1 ∙ ap (λ (h : Holding). h.member) into in
    let pushed = c.push_reserved-in-loop-more.ensures.items in
    let own = parts.0 ∙ ap (λ (h : Holding). h.common) into ∙ sym of in
    record {
      left = omega arith;
      made = omega arith;
      room = omega arith;
      of =
          subst (λ bs. AreOf x (map box_value bs)) (sym taken.ensures.items)
          (rest_are x all inv.of);
      threads =
          subst (All (IsThread x.shared)) (sym pushed)
          (all_pushed (IsThread x.shared) l.members.items m inv.threads
          (subst (λ (y : Common). IsThread y.shared m) own c.apart-own.ensures.thread));
      held =
          ap (λ ms. map (behind x) ms ++ map box_value taken.new.self.items) pushed
          ∙ ap (λ bs. map (behind x) (l.members.items ++ m ∷ []) ++ map box_value bs) taken.ensures.items
          ∙ more_out all b x m first of is l.members.items some
          ∙ inv.held;
    }
