use Rattle.std.proofs.Common.{arith}
use Rattle.pool_member.proofs.Trims.{empty_next, empty_none, paid_settled, trimmed_on, trimmed_settled}
use Rattle.pool_member.proofs.work.trimming.trim.Goals as goal

pub loop-class-init : goal.loop-class-init
loop-class-init g c =
    let pool = c.args.pool.now in let old = c.args.member.now in let new = c.settle.new.member in
    record {
      trimmed = trimmed_settled pool old new c.settle.ensures.settles;
      settled = c.settle.ensures.settled;
      paid = paid_settled pool old new c.settle.ensures.settles;
      empty = empty_none pool old.seat new.seat;
    }

pub returns-in-Err-clause-trimmed : goal.returns-in-Err-clause-trimmed
returns-in-Err-clause-trimmed g c =
    trimmed_on c.args.pool.now c.args.member.now c.loop-class.member c.wait_to_empty.new.member
    c.loop-class.invariant.trimmed c.in-Err.ensures.trimmed

pub returns-in-Err-clause-paid : goal.returns-in-Err-clause-paid
returns-in-Err-clause-paid g c =
    let a = c.loop-class.invariant.paid in let b = c.in-Err.ensures.paid in omega (arith, a, b)

pub loop-class-preserved : goal.loop-class-preserved
loop-class-preserved g c =
    let inv = c.loop-class.invariant in
    record {
      trimmed =
          trimmed_on c.args.pool.now c.args.member.now c.loop-class.member c.wait_to_empty.new.member inv.trimmed
          c.in-Ok.ensures.trimmed;
      settled = c.in-Ok.ensures.settled;
      paid = (let a = inv.paid in let b = c.in-Ok.ensures.paid in omega (arith, a, b));
      empty =
          empty_next c.args.pool.now c.loop-class.class c.args.member.now.seat c.loop-class.member.seat
          c.wait_to_empty.new.member.seat inv.trimmed.later c.in-Ok.ensures.trimmed.later inv.empty
          c.in-Ok.ensures.empty;
    }
