use Rattle.std.proofs.Common.{sym, subst, arith, rules}
use Rattle.std.proofs.lemmas.Grind.{common_steps}
use Rattle.std.specs.Prelude.{All}
use Rattle.pool_member.specs.Threads.{IsSettled}
use Rattle.pool_member.proofs.Lists.{all_rest}
use Rattle.pool_member.proofs.closing.parted.Goals as goal

pub loop-made-preserved : goal.loop-made-preserved
loop-made-preserved c =
    record {
      seats = first_of (search rules, grind (arith, common_steps));
      records = first_of (search rules, grind (arith, common_steps));
      left = omega arith;
      seats_made = omega arith;
      records_made = omega arith;
      seats_room = omega arith;
      records_room = omega arith;
      back = omega arith;
      settled =
          subst (All IsSettled) (sym c.remove-seat.ensures.items)
          (all_rest IsSettled c.loop-made.members.items c.loop-made.invariant.settled);
    }
