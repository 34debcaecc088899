use Rattle.std.proofs.Common.{◌<◌, [], ◌∷◌, ◌++◌, length, sym, ap, ◌∙◌, subst, arith}
use Rattle.std.specs.Prelude.{All}
use Rattle.pool_member.specs.Threads.{IsThread}
use Rattle.pool_member.proofs.Lists.{all_rest, passes_on}
use Rattle.buffer_pool.proofs.threads.threads_of.Goals as goal

pub loop-made-preserved : goal.loop-made-preserved
loop-made-preserved g c =
    let pool = c.args.pool.now in let inv = c.loop-made.invariant in let done = c.loop-made.threads.items in
    let left = c.loop-made.members.items in let m = c.remove-member.result in
    let pushed = c.push_reserved.ensures.items in let removed = c.remove-member.ensures.items in
    let some : 0 < length left = omega (arith, inv.left, c.loop-made-test.true) in
    record {
      same =
          ap (λ xs. xs ++ c.remove-member.new.self.items) pushed ∙ ap (λ ys. (done ++ m ∷ []) ++ ys) removed
          ∙ passes_on done left m some c.remove-member.ensures.value ∙ inv.same;
      left = omega arith;
      made = omega arith;
      room = omega arith;
      members = subst (All (IsThread pool)) (sym removed) (all_rest (IsThread pool) left inv.members);
    }
