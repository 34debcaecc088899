use Rattle.std.proofs.Common.{◌<◌, List, length, sym, subst, arith, rules}
use Rattle.std.proofs.lemmas.Grind.{common_steps}
use Rattle.std.specs.Prelude.{All}
use Rattle.shared_pool.specs.declared.seat.PoolSeat.{PoolSeat}
use Rattle.pool_member.specs.declared.account.Account.{Account}
use Rattle.pool_member.specs.declared.member.Member.{Member}
use Rattle.pool_member.specs.Opening.{ArePaired}
use Rattle.pool_member.specs.declared.pending.Pending.{Pending}
use Rattle.pool_member.specs.Threads.{IsKept, IsSettled, IsThread}
use Rattle.pool_member.proofs.Lists.{all_pushed}
use Rattle.pool_member.proofs.Opened.{paired_first, paired_rest}
use Rattle.pool_member.proofs.opening.members_of.Goals as goal

pub loop-made-preserved : goal.loop-made-preserved
loop-made-preserved c =
    let pool = c.args.pool.now in let inv = c.loop-made.invariant in let accounts = c.loop-made.accounts.items in
    let seats = c.loop-made.seats.items in
    let first_a = c.remove-account.ensures.items in let first_s = c.remove-seat.ensures.items in
    let some : 0 < length seats = omega (arith, inv.left, c.loop-made-test.true) in
    let new : Member = record {
      seat = c.remove-seat.result;
      account = c.remove-account.result;
      pending = c.nothing.result;
      watcher = c.new-watcher.result;
    } in
    record {
      paired =
          subst (λ (x : List Account × List PoolSeat). ArePaired pool x.0 x.1)
          (λ i. (sym first_a i, sym first_s i)) (paired_rest pool accounts seats inv.paired);
      left = omega arith;
      made = omega arith;
      room = omega arith;
      members =
          subst (All (IsThread pool)) (sym c.push_reserved.ensures.items)
          (all_pushed (IsThread pool) c.loop-made.members.items new inv.members
          (subst (λ (p : Pending). IsKept pool p new.account new.seat) (sym c.nothing.ensures)
          (paired_first pool accounts seats inv.paired some new.account new.seat c.remove-account.ensures.value
          c.remove-seat.ensures.value)));
      accounts = first_of (search rules, grind (arith, common_steps));
      seats = first_of (search rules, grind (arith, common_steps));
      accounts_left = omega arith;
      settled =
          subst (All IsSettled) (sym c.push_reserved.ensures.items)
          (all_pushed IsSettled c.loop-made.members.items new inv.settled c.nothing.ensures);
    }
