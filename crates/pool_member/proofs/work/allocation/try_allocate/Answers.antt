use Rattle.std.proofs.Common.{◌-◌, ◌≤◌, None, subst, sym}
use Rattle.seat_work.specs.Changes.{no_change}
use Rattle.seat_tries.specs.Allocations.{allocated}
use Rattle.pool_member.specs.declared.account.Account.{Account}
use Rattle.pool_member.specs.declared.member.Member.{Member}
use Rattle.pool_member.proofs.Settling.{if_cause_on, if_tried_born_on, same_account, settled_does, spends_only}
use Rattle.pool_member.proofs.Allotted.{tried_on}
use Rattle.pool_member.proofs.work.allocation.try_allocate.Goals as goal

pub returns-then-try_settle-clause-does : goal.returns-then-try_settle-clause-does
returns-then-try_settle-clause-does c =
    settled_does c.args.pool.now c.args.member.now c.try_settle.new.member c.try_allocate_settled.new.member 6
    (allocated c.try_allocate_settled.result) None c.try_settle.ensures.settles c.try_allocate_settled.ensures.does

pub returns-then-try_settle-clause-born : goal.returns-then-try_settle-clause-born
returns-then-try_settle-clause-born c =
    if_tried_born_on c.args.pool.now c.args.member.now c.try_settle.new.member c.try_allocate_settled.new.member
    c.try_settle.ensures.settles c.try_allocate_settled.result c.try_allocate_settled.ensures.born

pub returns-then-try_settle-clause-cause : goal.returns-then-try_settle-clause-cause
returns-then-try_settle-clause-cause c =
    if_cause_on c.args.pool.now c.args.member.now c.try_settle.new.member c.try_allocate_settled.new.member
    c.try_settle.ensures.settles c.try_allocate_settled.result c.try_allocate_settled.ensures.cause

-- what was to be put away is still there
pub returns-clause-does : goal.returns-clause-does
returns-clause-does c =
    let pool = c.args.pool.now in let old = c.args.member.now in let mid = c.try_settle.new.member in
    let settles = c.try_settle.ensures.settles in
    let after : Member = record mid { account = record mid.account { turns = mid.account.turns - 6 } } in
    settled_does pool old mid after 6 no_change None settles
    (spends_only pool mid 6 None settles.thread
    (subst (λ (a : Account). 6 ≤ a.turns) (sym (same_account pool old mid settles)) c.requires.turns))

pub returns-then-try_settle-clause-notes : goal.returns-then-try_settle-clause-notes
returns-then-try_settle-clause-notes c =
    let call = c.try_allocate_settled in
    tried_on c.args.pool.now c.args.size c.args.member.now c.try_settle.new.member call.new.member
    c.try_settle.ensures.settles (c.try_settle.ensures.settled.0 c.if-try_settle.true) call.result call.ensures.notes
