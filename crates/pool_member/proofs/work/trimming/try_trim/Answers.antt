use Rattle.std.proofs.Common.{arith}
use Rattle.pool_member.proofs.Trims.{any_of, empty_next, empty_none, paid_settled, stop_on, trimmed_on, trimmed_settled}
use Rattle.pool_member.proofs.work.trimming.try_trim.Goals as goal

pub returns-then-not-try_settle-clause-trimmed : goal.returns-then-not-try_settle-clause-trimmed
returns-then-not-try_settle-clause-trimmed c =
    trimmed_settled c.args.pool.now c.args.member.now c.try_settle.new.member c.try_settle.ensures.settles

pub returns-then-not-try_settle-clause-cause : goal.returns-then-not-try_settle-clause-cause
returns-then-not-try_settle-clause-cause c =
    any_of c.args.pool.now c.args.member.now.seat c.try_settle.new.member.seat
    (c.try_settle.ensures.cause c.if-not-try_settle.true)

pub loop-class-init : goal.loop-class-init
loop-class-init c =
    record {
      trimmed =
          trimmed_settled c.args.pool.now c.args.member.now c.try_settle.new.member c.try_settle.ensures.settles;
      settled = c.try_settle.ensures.settled.0 c.if-not-try_settle.false;
      paid = paid_settled c.args.pool.now c.args.member.now c.try_settle.new.member c.try_settle.ensures.settles;
      empty = empty_none c.args.pool.now c.args.member.now.seat c.try_settle.new.member.seat;
    }

pub returns-in-Err-clause-trimmed : goal.returns-in-Err-clause-trimmed
returns-in-Err-clause-trimmed c =
    trimmed_on c.args.pool.now c.args.member.now c.loop-class.member c.try_empty.new.member
    c.loop-class.invariant.trimmed c.in-Err.ensures.trimmed

pub returns-in-Err-clause-cause : goal.returns-in-Err-clause-cause
returns-in-Err-clause-cause c =
    stop_on c.args.pool.now c.args.member.now c.loop-class.member c.try_empty.new.member c.in-Err.no
    c.loop-class.invariant.trimmed.later c.in-Err.ensures.cause

pub loop-class-preserved : goal.loop-class-preserved
loop-class-preserved c =
    let inv = c.loop-class.invariant in
    record {
      trimmed =
          trimmed_on c.args.pool.now c.args.member.now c.loop-class.member c.try_empty.new.member inv.trimmed
          c.in-Ok.ensures.trimmed;
      settled = c.in-Ok.ensures.settled;
      paid = (let a = inv.paid in let b = c.in-Ok.ensures.paid in omega (arith, a, b));
      empty =
          empty_next c.args.pool.now c.loop-class.class c.args.member.now.seat c.loop-class.member.seat
          c.try_empty.new.member.seat inv.trimmed.later c.in-Ok.ensures.trimmed.later inv.empty c.in-Ok.ensures.empty;
    }

pub returns-then-not-try_settle-clause-paid : goal.returns-then-not-try_settle-clause-paid
returns-then-not-try_settle-clause-paid c =
    let a = paid_settled c.args.pool.now c.args.member.now c.try_settle.new.member c.try_settle.ensures.settles in
    omega (arith, a)

pub returns-in-Err-clause-paid : goal.returns-in-Err-clause-paid
returns-in-Err-clause-paid c =
    let a = c.loop-class.invariant.paid in let b = c.in-Err.ensures.paid in omega (arith, a, b)
