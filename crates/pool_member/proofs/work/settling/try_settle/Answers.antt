use Rattle.std.proofs.Common.{◌≤◌, ◌∙◌, sym, subst, rules}
use Rattle.seat_work.specs.Works.{Works}
use Rattle.pool_member.specs.declared.pending.Pending.{Pending}
use Rattle.pool_member.specs.Pendings.{hand_of, owed, IsPending, PutsAway}
use Rattle.pool_member.specs.Returns.{given_with}
use Rattle.pool_member.proofs.Keeping.{may_finish}
use Rattle.pool_member.proofs.Settling.{settles, settles_none}
use Rattle.pool_member.proofs.work.settling.try_settle.Goals as goal

pub put_away-left-requires-clause-works : goal.put_away-left-requires-clause-works
put_away-left-requires-clause-works c =
    let pool = c.args.pool.now in let old = c.args.member.now in
    subst (λ (p : Pending). Works pool (hand_of p) (owed p) 0 old.seat)
    (sym (c.into_pending-pending.ensures ∙ c.replace.ensures.value))
    (may_finish pool old c.requires.thread)

pub put_away-left-requires-clause-pending : goal.put_away-left-requires-clause-pending
put_away-left-requires-clause-pending c =
    subst (IsPending c.args.pool.now c.args.member.now.seat)
    (sym (c.into_pending-pending.ensures ∙ c.replace.ensures.value))
    c.requires.thread.pending

pub returns-then-is_nothing-clause-settles : goal.returns-then-is_nothing-clause-settles
returns-then-is_nothing-clause-settles c = settles_none c.args.pool.now c.args.member.now c.requires.thread

pub returns-clause-settles : goal.returns-clause-settles
returns-clause-settles c =
    let pool = c.args.pool.now in let old = c.args.member.now in let call = c.put_away-left in
    let away : PutsAway pool (owed old.pending) old.seat call.new.seat c.keep.new.pending =
    subst (λ (p : Pending). PutsAway pool (owed p) old.seat call.new.seat c.keep.new.pending)
    (c.into_pending-pending.ensures ∙ c.replace.ensures.value)
    (subst (λ (p : Pending). PutsAway pool (owed c.into_pending-pending.result) old.seat call.new.seat p)
    (sym c.keep.ensures) call.ensures.away) in
    settles pool old call.new.seat c.keep.new.pending c.requires.thread
    (λ settled. search (rules, c.is_nothing.ensures.1 settled)) away
    (subst (λ (p : Pending). given_with old.seat p ≤ given_with call.new.seat c.keep.new.pending)
    (c.into_pending-pending.ensures ∙ c.replace.ensures.value)
    (subst (λ (p : Pending). given_with old.seat c.into_pending-pending.result ≤ given_with call.new.seat p)
    (sym c.keep.ensures) call.ensures.returned)) call.ensures.took
