use Rattle.std.proofs.Common.{◌<◌, ◌≤◌, Bool, None, sym, subst}
use Rattle.std.specs.Prelude.{MatchBool}
use Rattle.pool_law.specs.declared.note.Did.{Did}
use Rattle.pool_member.specs.declared.account.Account.{Account}
use Rattle.pool_member.specs.Counting.{counted}
use Rattle.pool_member.specs.Tries.{HasAccessed, StaysOut}
use Rattle.pool_member.proofs.Accessing.{accessed_after, same_account, waits_first, waits_on}
use Rattle.pool_member.proofs.work.access.touch.Goals as goal

pub try_touch-requires-clause-counts : goal.try_touch-requires-clause-counts
try_touch-requires-clause-counts g c =
    subst (λ (a : Account). 0 < counted a.counts c.args.root)
    (sym (same_account c.args.pool.now c.args.member.now c.loop.member c.loop.invariant)) c.requires.counts

pub try_touch-requires-clause-turns : goal.try_touch-requires-clause-turns
try_touch-requires-clause-turns g c =
    subst (λ (a : Account). 1 ≤ a.turns)
    (sym (same_account c.args.pool.now c.args.member.now c.loop.member c.loop.invariant)) c.requires.turns

pub returns-then-try_touch : goal.returns-then-try_touch
returns-then-try_touch g c =
    let pool = c.args.pool.now in let root = c.args.root in let mid = c.loop.member in
    let new = c.try_touch.new.member in let did = Did.Touch in
    let it = subst (λ (b : Bool). MatchBool b (HasAccessed pool root did None mid new) (StaysOut pool root mid new))
    c.if-try_touch.true c.try_touch.ensures in
    let all = accessed_after pool root c.args.member.now mid new did None c.loop.invariant it in
    record { does = all.does; moves = all.moves; noted = (all.number, all.noted) }

pub loop-init : goal.loop-init
loop-init g c = waits_first c.args.pool.now c.args.member.now c.requires.thread

pub loop-preserved : goal.loop-preserved
loop-preserved g c =
    let pool = c.args.pool.now in let root = c.args.root in let mid = c.loop.member in
    let new = c.try_touch.new.member in let did = Did.Touch in
    waits_on pool root c.args.member.now mid new c.loop.invariant
    (subst (λ (b : Bool). MatchBool b (HasAccessed pool root did None mid new) (StaysOut pool root mid new))
    c.if-try_touch.false c.try_touch.ensures)
