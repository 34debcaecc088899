use Rattle.std.proofs.Common.{◌≡◌, ◌-◌, false, true, sym, ◌∙◌, subst, arith}
use Rattle.pool_member.specs.declared.member.Member.{Member}
use Rattle.pool_member.specs.declared.pending.Pending.{Pending}
use Rattle.pool_member.specs.Pendings.{nothing}
use Rattle.pool_member.specs.Trims.{HasTrimmed}
use Rattle.pool_member.proofs.Pendings.{met_by}
use Rattle.pool_member.proofs.Returns.{later_given}
use Rattle.pool_member.proofs.Trims.{any_of, paid_step, trimmed_none, trimmed_once}
use Rattle.pool_member.proofs.work.trimming.give_one.Goals as goal

pub returns-then-member-lt-SHED_TURNS-clause-trimmed : goal.returns-then-member-lt-SHED_TURNS-clause-trimmed
returns-then-member-lt-SHED_TURNS-clause-trimmed c =
    trimmed_none c.args.pool.now c.args.member.now c.requires.thread

pub returns-then-ended-clause-trimmed : goal.returns-then-ended-clause-trimmed
returns-then-ended-clause-trimmed c =
    let pool = c.args.pool.now in let old = c.args.member.now in let new = c.shed_one.new.seat in
    let after : Member = record old {
      seat = new;
      account = record old.account { turns = old.account.turns - 2 };
    } in
    subst (λ (p : Pending). HasTrimmed pool old (record after { pending = p })) (sym c.keep.ensures)
    (trimmed_once pool old new c.in-One.left c.requires.thread (omega (arith, c.if-member-lt-SHED_TURNS.false))
    c.in-One.ensures.shed.0 c.in-One.ensures.took)

pub returns-else-ended-clause-trimmed : goal.returns-else-ended-clause-trimmed
returns-else-ended-clause-trimmed c =
    let pool = c.args.pool.now in let old = c.args.member.now in let new = c.shed_one.new.seat in
    let after : Member = record old {
      seat = new;
      account = record old.account { turns = old.account.turns - 2 };
    } in
    subst (λ (p : Pending). HasTrimmed pool old (record after { pending = p })) (sym c.keep.ensures)
    (trimmed_once pool old new c.in-One.left c.requires.thread (omega (arith, c.if-member-lt-SHED_TURNS.false))
    c.in-One.ensures.shed.0 c.in-One.ensures.took)

pub returns-else-ended-clause-cause : goal.returns-else-ended-clause-cause
returns-else-ended-clause-cause c =
    let pool = c.args.pool.now in let old = c.args.member.now.seat in let new = c.shed_one.new.seat in
    let left = c.in-One.left in
    any_of pool old new
    (met_by pool old new left
    (λ (e : left ≡ nothing).
    (let t : c.is_nothing-ended.result ≡ true = c.is_nothing-ended.ensures.1 e in
    let f : true ≡ false = sym t ∙ c.if-ended.false in absurd (cc f))) c.in-One.ensures.shed.0.cause)

pub returns-in-Empty-clause-trimmed : goal.returns-in-Empty-clause-trimmed
returns-in-Empty-clause-trimmed c =
    let pool = c.args.pool.now in let old = c.args.member.now in let new = c.shed_one.new.seat in
    let after : Member = record old {
      seat = new;
      account = record old.account { turns = old.account.turns - 2 };
    } in
    subst (λ (p : Pending). HasTrimmed pool old (record after { pending = p })) (sym c.requires.settled)
    (trimmed_once pool old new nothing c.requires.thread (omega (arith, c.if-member-lt-SHED_TURNS.false))
    c.in-Empty.ensures.shed.0 c.in-Empty.ensures.took)

pub returns-in-Busy-clause-trimmed : goal.returns-in-Busy-clause-trimmed
returns-in-Busy-clause-trimmed c =
    let pool = c.args.pool.now in let old = c.args.member.now in let new = c.shed_one.new.seat in
    let after : Member = record old {
      seat = new;
      account = record old.account { turns = old.account.turns - 2 };
    } in
    subst (λ (p : Pending). HasTrimmed pool old (record after { pending = p })) (sym c.requires.settled)
    (trimmed_once pool old new nothing c.requires.thread (omega (arith, c.if-member-lt-SHED_TURNS.false))
    c.in-Busy.ensures.shed.0 c.in-Busy.ensures.took)

-- ---- What it spent.

pub returns-then-ended-clause-paid : goal.returns-then-ended-clause-paid
returns-then-ended-clause-paid c =
    let old = c.args.member.now in
    paid_step old c.shed_one.new.seat c.in-One.left c.keep.new.pending 0 c.requires.settled c.keep.ensures
    (omega (arith, c.if-member-lt-SHED_TURNS.false)) (omega (arith, c.in-One.ensures.shed.1))

pub returns-else-ended-clause-paid : goal.returns-else-ended-clause-paid
returns-else-ended-clause-paid c =
    let old = c.args.member.now in
    paid_step old c.shed_one.new.seat c.in-One.left c.keep.new.pending 0 c.requires.settled c.keep.ensures
    (omega (arith, c.if-member-lt-SHED_TURNS.false)) (omega (arith, c.in-One.ensures.shed.1))

pub returns-in-Empty-clause-paid : goal.returns-in-Empty-clause-paid
returns-in-Empty-clause-paid c =
    let old = c.args.member.now in let new = c.shed_one.new.seat in
    let le = later_given c.args.pool.now old.seat new c.in-Empty.ensures.shed.0.later in
    paid_step old new nothing old.pending 1 c.requires.settled c.requires.settled
    (omega (arith, c.if-member-lt-SHED_TURNS.false)) (omega (arith, le))

pub returns-in-Busy-clause-paid : goal.returns-in-Busy-clause-paid
returns-in-Busy-clause-paid c =
    let old = c.args.member.now in
    paid_step old c.shed_one.new.seat nothing old.pending 0 c.requires.settled c.requires.settled
    (omega (arith, c.if-member-lt-SHED_TURNS.false)) (omega (arith, c.in-Busy.ensures.shed.2))
