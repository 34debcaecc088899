use Rattle.std.proofs.Common.{arith}
use Rattle.pool_member.proofs.Trims.{finds_on, paid_settled, trimmed_none, trimmed_on, trimmed_settled}
use Rattle.pool_member.proofs.work.trimming.wait_to_empty.Goals as goal

pub loop-init : goal.loop-init
loop-init g c =
    record {
      trimmed = trimmed_none c.args.pool.now c.args.member.now c.requires.thread;
      settled = c.requires.settled;
      paid = omega arith;
    }

pub returns-in-Ok-clause-trimmed : goal.returns-in-Ok-clause-trimmed
returns-in-Ok-clause-trimmed g c =
    trimmed_on c.args.pool.now c.args.member.now c.loop.member c.try_empty.new.member c.loop.invariant.trimmed
    c.in-Ok.ensures.trimmed

pub returns-in-Ok-clause-empty : goal.returns-in-Ok-clause-empty
returns-in-Ok-clause-empty g c =
    finds_on c.args.pool.now c.args.class c.args.member.now.seat c.loop.member.seat c.try_empty.new.member.seat
    c.loop.invariant.trimmed.later c.in-Ok.ensures.empty

pub returns-in-Ok-clause-paid : goal.returns-in-Ok-clause-paid
returns-in-Ok-clause-paid g c =
    let a = c.loop.invariant.paid in let b = c.in-Ok.ensures.paid in omega (arith, a, b)

pub returns-in-Err-Spent-clause-trimmed : goal.returns-in-Err-Spent-clause-trimmed
returns-in-Err-Spent-clause-trimmed g c =
    trimmed_on c.args.pool.now c.args.member.now c.loop.member c.try_empty.new.member c.loop.invariant.trimmed
    c.in-Err-Spent.ensures.trimmed

pub returns-in-Err-Spent-clause-paid : goal.returns-in-Err-Spent-clause-paid
returns-in-Err-Spent-clause-paid g c =
    let a = c.loop.invariant.paid in let b = c.in-Err-Spent.ensures.paid in omega (arith, a, b)

-- what is left on the way is put away, and the cache is tried again
pub loop-preserved : goal.loop-preserved
loop-preserved g c =
    let pool = c.args.pool.now in let old = c.args.member.now in let mid = c.loop.member in
    let tried = c.try_empty.new.member in let new = c.settle.new.member in let inv = c.loop.invariant in
    let settles = c.settle.ensures.settles in
    record {
      trimmed =
          trimmed_on pool old tried new (trimmed_on pool old mid tried inv.trimmed c.in-Err-Busy.ensures.trimmed)
          (trimmed_settled pool tried new settles);
      settled = c.settle.ensures.settled;
      paid =
          (let a = inv.paid in let b = c.in-Err-Busy.ensures.paid in let d = paid_settled pool tried new settles in
          omega (arith, a, b, d));
    }
