use Rattle.std.proofs.Common.{◌-◌, ◌≤◌, Some, sym, subst}
use Rattle.seat_work.specs.Changes.{no_change}
use Rattle.seat_work.proofs.Later.{later_but}
use Rattle.pool_member.specs.declared.account.Account.{Account}
use Rattle.pool_member.specs.declared.member.Member.{Member}
use Rattle.pool_member.specs.Growths.{asked}
use Rattle.pool_member.proofs.Asking.{if_asked_told_on, if_refused_on, other_but}
use Rattle.pool_member.proofs.AloneLater.{grows_none, grows_on}
use Rattle.pool_member.proofs.Settling.{keeps_settled, same_account, settled_does, spends_only}
use Rattle.pool_member.proofs.Asked.{asked_on}
use Rattle.pool_member.proofs.work.growth.try_grow.Goals as goal

pub returns-then-try_settle-clause-does : goal.returns-then-try_settle-clause-does
returns-then-try_settle-clause-does c =
    settled_does c.args.pool.now c.args.member.now c.try_settle.new.member c.try_grow_settled.new.member 6
    (asked c.try_grow_settled.result) (Some c.args.root) c.try_settle.ensures.settles c.try_grow_settled.ensures.does

pub returns-then-try_settle-clause-told : goal.returns-then-try_settle-clause-told
returns-then-try_settle-clause-told c =
    let pool = c.args.pool.now in let old = c.args.member.now.seat in let mid = c.try_settle.new.member.seat in
    if_asked_told_on pool c.args.root old mid c.try_grow_settled.new.member.seat
    (later_but pool c.args.root old mid c.try_settle.ensures.settles.later) c.try_grow_settled.result
    c.try_grow_settled.ensures.told

pub returns-then-try_settle-clause-cause : goal.returns-then-try_settle-clause-cause
returns-then-try_settle-clause-cause c =
    let pool = c.args.pool.now in let old = c.args.member.now.seat in let mid = c.try_settle.new.member.seat in
    if_refused_on pool c.args.root old mid c.try_grow_settled.new.member.seat
    (later_but pool c.args.root old mid c.try_settle.ensures.settles.later) c.try_grow_settled.result
    c.try_grow_settled.ensures.cause

-- what was to be put away is still there
pub returns-clause-does : goal.returns-clause-does
returns-clause-does c =
    let pool = c.args.pool.now in let old = c.args.member.now in let mid = c.try_settle.new.member in
    let settles = c.try_settle.ensures.settles in
    let after : Member = record mid { account = record mid.account { turns = mid.account.turns - 6 } } in
    settled_does pool old mid after 6 no_change (Some c.args.root) settles
    (spends_only pool mid 6 (Some c.args.root) settles.thread
    (subst (λ (a : Account). 6 ≤ a.turns) (sym (same_account pool old mid settles)) c.requires.turns))

pub returns-clause-cause : goal.returns-clause-cause
returns-clause-cause c =
    other_but c.args.pool.now c.args.root c.args.member.now.seat c.try_settle.new.member.seat
    (c.try_settle.ensures.cause c.if-try_settle.false)

pub returns-then-try_settle-clause-alone : goal.returns-then-try_settle-clause-alone
returns-then-try_settle-clause-alone c =
    let pool = c.args.pool.now in let old = c.args.member.now in let mid = c.try_settle.new.member in
    grows_on c.args.root old mid c.try_grow_settled.new.member
    (keeps_settled pool old mid c.try_settle.ensures.settles) c.try_grow_settled.ensures.alone

pub returns-clause-alone : goal.returns-clause-alone
returns-clause-alone c =
    let pool = c.args.pool.now in let old = c.args.member.now in let mid = c.try_settle.new.member in
    grows_none c.args.root old mid (keeps_settled pool old mid c.try_settle.ensures.settles)

pub returns-then-try_settle-clause-notes : goal.returns-then-try_settle-clause-notes
returns-then-try_settle-clause-notes c =
    let a = c.args in let call = c.try_grow_settled in let mid = c.try_settle in
    asked_on a.pool.now a.root a.size a.member.now mid.new.member call.new.member mid.ensures.settles
    (mid.ensures.settled.0 c.if-try_settle.true) call.result call.ensures.notes
