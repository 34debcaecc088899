use Rattle.std.proofs.Common.{◌≡◌, ◌<◌, [], ◌∷◌, ◌++◌, length, sym, ap, ◌∙◌, subst, arith}
use Rattle.std.specs.Prelude.{All, slice_index_or}
use Rattle.pool_member.specs.declared.member.Member.{Member}
use Rattle.pool_member.specs.Threads.{IsThread}
use Rattle.pool_member.proofs.Lists.{all_passed, all_pushed, passes_on}
use Rattle.buffer_pool.proofs.Named.{of_named}
use Rattle.buffer_pool.proofs.threads.members_of.Goals as goal

pub loop-made-preserved : goal.loop-made-preserved
loop-made-preserved g c =
    let pool = c.args.pool.now in let inv = c.loop-made.invariant in let done = c.loop-made.members.items in
    let left = c.loop-made.threads.items in let m = c.member.inside.member in let view = c.member.view_is in
    let pushed = c.push_reserved.ensures.items in let removed = c.remove.ensures.items in
    let some : 0 < length left = omega (arith, inv.left, c.loop-made-test.true) in
    let first : m ≡ slice_index_or left 0 m =
    subst (λ (x : Member). x ≡ slice_index_or left 0 x) (sym view) c.remove.ensures.value in
    record {
      same =
          ap (λ xs. xs ++ c.remove.new.self.items) pushed ∙ ap (λ ys. (done ++ m ∷ []) ++ ys) removed
          ∙ passes_on done left m some first ∙ inv.same;
      left = omega arith;
      made = omega arith;
      room = omega arith;
      back = omega arith;
      members =
          subst (All (IsThread pool)) (sym pushed)
          (all_pushed (IsThread pool) done m inv.members
          (of_named (λ p. IsThread p m) g.B.PoolName.pool pool c.requires.named c.member.invariant));
    }

pub returns-clause-same : goal.returns-clause-same
returns-clause-same g c =
    let none : length c.loop-made.threads.items ≡ 0 = omega arith in
    all_passed c.loop-made.members.items c.loop-made.threads.items c.args.threads.items c.loop-made.invariant.same none
