use Rattle.std.proofs.Common.{◌≡◌, List, length, Some, subst, arith}
use Rattle.std.specs.Prelude.{slice_get}
use Rattle.pool_member.specs.declared.account.Account.{Account}
use Rattle.pool_member.proofs.Opened.{new_pushed}
use Rattle.pool_member.proofs.opening.new_accounts.Goals as goal

pub loop-lane-preserved : goal.loop-lane-preserved
loop-lane-preserved c =
    let inv = c.loop-lane.invariant in let old = c.loop-lane.accounts.items in let new = c.in_ok-new_account.field-0 in
    let many : length old ≡ c.loop-lane.lane = omega arith in
    record {
      many = (let a = c.in_ok-push.ensures.len in let b = inv.many in omega (arith, a, b));
      most = omega arith;
      each = λ k a at.
          new_pushed c.args.layout.now old new c.loop-lane.lane many c.in_ok-new_account.ensures inv.each k a
          (subst (λ (xs : List Account). slice_get xs k ≡ Some a) c.in_ok-push.ensures.items at);
    }
