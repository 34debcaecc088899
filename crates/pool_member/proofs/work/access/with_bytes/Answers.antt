use Rattle.std.proofs.Common.{◌+◌, ◌<◌, ◌≤◌, ◌∙◌, None, refl, sym, subst}
use Rattle.std.specs.Fn.{FnOnceReturnsAt}
use Rattle.pool_law.specs.declared.note.Did.{Did}
use Rattle.pool_law.specs.Roots.{bytes_at}
use Rattle.pool_table.specs.declared.views.SeatView.{SeatView}
use Rattle.pool_table.specs.Lone.{own_bytes, IsLone}
use Rattle.pool_member.specs.Alone.{laid_in}
use Rattle.pool_member.specs.declared.account.Account.{Account}
use Rattle.pool_member.specs.Counting.{counted, known}
use Rattle.pool_member.proofs.Accessing.{accessed_after, same_account, waits_first, waits_on}
use Rattle.pool_member.proofs.work.access.with_bytes.Goals as goal

pub try_with_bytes-requires-clause-counts : goal.try_with_bytes-requires-clause-counts
try_with_bytes-requires-clause-counts g c =
    subst (λ (a : Account). 0 < counted a.counts c.args.root)
    (sym (same_account c.args.pool.now c.args.member.now c.loop.member c.loop.invariant.0)) c.requires.counts

pub try_with_bytes-requires-clause-range : goal.try_with_bytes-requires-clause-range
try_with_bytes-requires-clause-range g c =
    subst (λ (a : Account). c.args.offset + c.args.len ≤ known a.counts c.args.root)
    (sym (same_account c.args.pool.now c.args.member.now c.loop.member c.loop.invariant.0)) c.requires.range

pub try_with_bytes-requires-clause-turns : goal.try_with_bytes-requires-clause-turns
try_with_bytes-requires-clause-turns g c =
    subst (λ (a : Account). 1 ≤ a.turns)
    (sym (same_account c.args.pool.now c.args.member.now c.loop.member c.loop.invariant.0)) c.requires.turns

pub try_with_bytes-requires-clause-callable : goal.try_with_bytes-requires-clause-callable
try_with_bytes-requires-clause-callable g c =
    subst (λ f. denote.Param.Always.always_once g.F.FnOnce f) (sym c.loop.invariant.1) c.requires.callable

pub returns-in-Ok : goal.returns-in-Ok
returns-in-Ok g c =
    let pool = c.args.pool.now in let root = c.args.root in let mid = c.loop.member in
    let new = c.try_with_bytes.new.member in let shown = (c.in-Ok.ensures {u = tt}).shown in
    let own = (c.in-Ok.ensures {u = tt}).own in
    let all = accessed_after pool root c.args.member.now mid new (Did.Get c.args.offset shown.0) None
    c.loop.invariant.0 shown.3 in
    record {
      does = all.does;
      moves = all.moves;
      shown = (
        shown.0,
        all.number,
        shown.1,
        subst (λ f. FnOnceReturnsAt g.F.FnOnce f shown.0 c.in-Ok.answer) c.loop.invariant.1 shown.2,
        all.noted,
      );
      own =
          λ alone.
          subst (λ f. FnOnceReturnsAt g.F.FnOnce f (bytes_at (laid_in c.args.member.now root) c.args.offset c.args.len)
          c.in-Ok.answer) c.loop.invariant.1
          (subst (λ (v : SeatView). IsLone root v → FnOnceReturnsAt g.F.FnOnce c.loop.f
          (bytes_at (own_bytes root v) c.args.offset c.args.len) c.in-Ok.answer) c.loop.invariant.0.view own alone);
    }

pub loop-init : goal.loop-init
loop-init g c = (waits_first c.args.pool.now c.args.member.now c.requires.thread, refl)

pub loop-preserved : goal.loop-preserved
loop-preserved g c =
    let pool = c.args.pool.now in let root = c.args.root in let mid = c.loop.member in
    let new = c.try_with_bytes.new.member in let back = (c.in-Err.ensures {u = tt}).back in
    (waits_on pool root c.args.member.now mid new c.loop.invariant.0 back.1, back.0 ∙ c.loop.invariant.1)
