use Rattle.std.proofs.Common.{◌+◌, ◌<◌, ◌≤◌, ◌∙◌, refl, sym, subst}
use Rattle.std.specs.Fn.{FnOnceReturnsAtMut}
use Rattle.pool_member.specs.declared.account.Account.{Account}
use Rattle.pool_member.specs.Counting.{counted, known}
use Rattle.pool_member.proofs.Accessing.{same_account, set_over_after, waits_first, waits_on}
use Rattle.pool_member.proofs.work.in_place.with_bytes_mut.Goals as goal

pub try_with_bytes_mut-requires-clause-counts : goal.try_with_bytes_mut-requires-clause-counts
try_with_bytes_mut-requires-clause-counts g c =
    subst (λ (a : Account). 0 < counted a.counts c.args.root)
    (sym (same_account c.args.pool.now c.args.member.now c.loop.member c.loop.invariant.0)) c.requires.counts

pub try_with_bytes_mut-requires-clause-range : goal.try_with_bytes_mut-requires-clause-range
try_with_bytes_mut-requires-clause-range g c =
    subst (λ (a : Account). c.args.offset + c.args.len ≤ known a.counts c.args.root)
    (sym (same_account c.args.pool.now c.args.member.now c.loop.member c.loop.invariant.0)) c.requires.range

pub try_with_bytes_mut-requires-clause-turns : goal.try_with_bytes_mut-requires-clause-turns
try_with_bytes_mut-requires-clause-turns g c =
    subst (λ (a : Account). 1 ≤ a.turns)
    (sym (same_account c.args.pool.now c.args.member.now c.loop.member c.loop.invariant.0)) c.requires.turns

pub try_with_bytes_mut-requires-clause-callable : goal.try_with_bytes_mut-requires-clause-callable
try_with_bytes_mut-requires-clause-callable g c =
    subst (λ f. denote.Param.Always.always_once g.F.FnOnce f) (sym c.loop.invariant.1) c.requires.callable

pub returns-in-Ok : goal.returns-in-Ok
returns-in-Ok g c =
    let pool = c.args.pool.now in let root = c.args.root in let mid = c.loop.member in
    let new = c.try_with_bytes_mut.new.member in let set = (c.in-Ok.ensures {u = tt}).set in
    let before = set.0 in let bytes = set.1 in
    let all = set_over_after pool root c.args.member.now mid new c.args.offset before bytes c.loop.invariant.0 set.5 in
    record {
      does = all.does;
      moves = all.moves;
      set = (
        before,
        bytes,
        all.number,
        set.2,
        set.3,
        subst (λ f. FnOnceReturnsAtMut g.F.FnOnce f before c.in-Ok.answer bytes) c.loop.invariant.1 set.4,
        all.over,
        all.laid,
      );
    }

pub loop-init : goal.loop-init
loop-init g c = (waits_first c.args.pool.now c.args.member.now c.requires.thread, refl)

pub loop-preserved : goal.loop-preserved
loop-preserved g c =
    let pool = c.args.pool.now in let root = c.args.root in let mid = c.loop.member in
    let new = c.try_with_bytes_mut.new.member in let back = (c.in-Err.ensures {u = tt}).back in
    (waits_on pool root c.args.member.now mid new c.loop.invariant.0 back.1, back.0 ∙ c.loop.invariant.1)
