use Rattle.std.proofs.Common.{sym, subst, arith, rules}
use Rattle.std.proofs.lemmas.Grind.{common_steps}
use Rattle.std.specs.Prelude.{All}
use Rattle.pool_member.specs.declared.member.Member.{Member}
use Rattle.pool_member.specs.Threads.{IsSettled}
use Rattle.pool_member.proofs.Lists.{all_pushed}
use Rattle.pool_member.proofs.closing.joined.Goals as goal

pub loop-made-preserved : goal.loop-made-preserved
loop-made-preserved c =
    let new : Member = record {
      seat = c.remove-seat.result;
      account = c.remove-account.result.account;
      pending = c.nothing.result;
      watcher = c.remove-account.result.watcher;
    } in
    record {
      seats = first_of (search rules, grind (arith, common_steps));
      records = first_of (search rules, grind (arith, common_steps));
      seats_left = omega arith;
      records_left = omega arith;
      made = omega arith;
      room = omega arith;
      settled =
          subst (All IsSettled) (sym c.push_reserved.ensures.items)
          (all_pushed IsSettled c.loop-made.members.items new c.loop-made.invariant.settled c.nothing.ensures);
    }
