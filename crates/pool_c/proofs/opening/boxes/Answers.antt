use Rattle.std.proofs.Common.{◌<◌, length, sym, subst, arith, rules}
use Rattle.std.proofs.lemmas.Grind.{common_steps}
use Rattle.std.specs.Prelude.{All}
use Rattle.std.specs.Arc.{arc_value}
use Rattle.pool_member.specs.Threads.{IsThread}
use Rattle.pool_member.proofs.Lists.{all_first, all_rest}
use Rattle.pool_c.specs.declared.held.Common.{Common}
use Rattle.pool_c.proofs.opening.boxes.Goals as goal

pub invariant_of-new : goal.invariant_of-new
invariant_of-new c =
    let pool = (arc_value c.args.common.now).shared in let inv = c.loop-made.invariant in
    let m = c.remove-member.result in let left = c.loop-made.members.items in
    let some : 0 < length left = omega (arith, inv.left, c.loop-made-test.true) in
    subst (λ (x : Common). IsThread x.shared m) (sym c.in-Ok-try_clone.ensures)
    (all_first (IsThread pool) left m some c.remove-member.ensures.value inv.members)

pub loop-made-preserved : goal.loop-made-preserved
loop-made-preserved c =
    let pool = (arc_value c.args.common.now).shared in let inv = c.loop-made.invariant in
    record {
      left = omega arith;
      made = omega arith;
      room = omega arith;
      members =
          subst (All (IsThread pool)) (sym c.remove-member.ensures.items)
          (all_rest (IsThread pool) c.loop-made.members.items inv.members);
      same = first_of (search rules, grind (arith, common_steps));
    }
