use Rattle.std.proofs.Common.{Ok, Bool, ap, subst, arith}
use Rattle.std.specs.Prelude.{if◌then◌else◌}
use Rattle.pool_member.specs.Trims.{HasPaid}
use Rattle.pool_member.proofs.Trims.{finds_on, stop_on, trimmed_none, trimmed_on}
use Rattle.pool_member.proofs.work.trimming.try_empty.Goals as goal

pub loop-step-init : goal.loop-step-init
loop-step-init c =
    record {
      trimmed = trimmed_none c.args.pool.now c.args.member.now c.requires.thread;
      settled = c.requires.settled;
      paid = omega arith;
      took = omega arith;
    }

pub returns-in-Err-clause-trimmed : goal.returns-in-Err-clause-trimmed
returns-in-Err-clause-trimmed c =
    trimmed_on c.args.pool.now c.args.member.now c.loop-step.member c.give_one.new.member
    c.loop-step.invariant.trimmed c.in-Err.ensures.trimmed

pub returns-in-Err-clause-cause : goal.returns-in-Err-clause-cause
returns-in-Err-clause-cause c =
    stop_on c.args.pool.now c.args.member.now c.loop-step.member c.give_one.new.member c.in-Err.no
    c.loop-step.invariant.trimmed.later c.in-Err.ensures.cause

pub returns-then-not-gave-clause-trimmed : goal.returns-then-not-gave-clause-trimmed
returns-then-not-gave-clause-trimmed c =
    trimmed_on c.args.pool.now c.args.member.now c.loop-step.member c.give_one.new.member
    c.loop-step.invariant.trimmed c.in-Ok.ensures.trimmed

pub returns-then-not-gave-clause-empty : goal.returns-then-not-gave-clause-empty
returns-then-not-gave-clause-empty c =
    finds_on c.args.pool.now c.args.class c.args.member.now.seat c.loop-step.member.seat c.give_one.new.member.seat
    c.loop-step.invariant.trimmed.later (c.in-Ok.ensures.empty (ap (λ b. Ok b) c.if-not-gave.true))

pub returns-then-not-gave-clause-paid : goal.returns-then-not-gave-clause-paid
returns-then-not-gave-clause-paid c =
    let a = c.loop-step.invariant.paid in
    let b : HasPaid 1 c.loop-step.member c.give_one.new.member =
    subst (λ (gave : Bool). HasPaid (if gave then 0 else 1) c.loop-step.member c.give_one.new.member)
    c.if-not-gave.true c.in-Ok.ensures.paid in
    omega (arith, a, b)

pub returns-in-Err-clause-paid : goal.returns-in-Err-clause-paid
returns-in-Err-clause-paid c =
    let a = c.loop-step.invariant.paid in let b = c.in-Err.ensures.paid in omega (arith, a, b)

pub loop-step-preserved : goal.loop-step-preserved
loop-step-preserved c =
    record {
      trimmed =
          trimmed_on c.args.pool.now c.args.member.now c.loop-step.member c.give_one.new.member
          c.loop-step.invariant.trimmed c.in-Ok.ensures.trimmed;
      settled = c.in-Ok.ensures.settled;
      paid = (let a = c.loop-step.invariant.paid in let b : HasPaid 0 c.loop-step.member c.give_one.new.member =
          subst (λ (gave : Bool). HasPaid (if gave then 0 else 1) c.loop-step.member c.give_one.new.member)
          c.if-not-gave.false c.in-Ok.ensures.paid in
          omega (arith, a, b));
      took = (let a = c.in-Ok.ensures.took in let b = c.loop-step.invariant.took in omega (arith, a, b));
    }
