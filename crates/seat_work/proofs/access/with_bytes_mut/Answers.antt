use Rattle.std.proofs.Common.{◌+◌, ◌≤◌, sym, subst}
use Rattle.std.specs.Fn.{FnOnceReturnsAtMut}
use Rattle.pool_law.specs.declared.note.Did.{Did}
use Rattle.pool_table.specs.declared.views.SeatView.{SeatView}
use Rattle.pool_table.specs.Capacities.{knows_of}
use Rattle.pool_table.specs.Counts.{HasCount}
use Rattle.shared_pool.specs.SeatViews.{view_of}
use Rattle.seat_work.proofs.Accesses.{accessed, set_quiet, set_same}
use Rattle.seat_work.proofs.access.with_bytes_mut.Goals as goal

pub with_bytes_mut-requires-clause-counts : goal.with_bytes_mut-requires-clause-counts
with_bytes_mut-requires-clause-counts g c =
    subst (λ (v : SeatView). HasCount c.args.root v) (sym c.loop.invariant.1) c.requires.counts

pub with_bytes_mut-requires-clause-range : goal.with_bytes_mut-requires-clause-range
with_bytes_mut-requires-clause-range g c =
    let a = c.args in
    subst (λ (v : SeatView). a.offset + a.len ≤ knows_of a.root v) (sym c.loop.invariant.1) c.requires.range

pub with_bytes_mut-requires-clause-callable : goal.with_bytes_mut-requires-clause-callable
with_bytes_mut-requires-clause-callable g c =
    subst (λ f. denote.Param.Always.always_once g.F.FnOnce f) (sym c.loop.invariant.2) c.requires.callable

pub returns-in-Did : goal.returns-in-Did
returns-in-Did g c =
    let inv = c.loop.invariant in let did = c.in-Did.ensures {u = tt} in let number = c.in-Did._number in
    let a = c.args in let mid = c.loop.seat in let before = did.did.0 in let bytes = did.did.1 in
    let over = did.did.5 in
    let it = accessed a.pool.now a.seat.now mid c.with_bytes_mut.new.seat a.root number (Did.Set a.offset bytes) inv.0
    inv.1 did.seat c.requires.works c.requires.counts
    (set_quiet a.root number (view_of mid).own.number a.offset bytes) over.noted in
    record {
      proceeds = it.proceeds;
      counts = it.counts;
      set = (
        before,
        bytes,
        number,
        did.did.2,
        did.did.3,
        subst (λ f. FnOnceReturnsAtMut g.F.FnOnce f before c.in-Did.answer bytes) inv.2 did.did.4,
        set_same a.pool.now a.seat.now mid c.with_bytes_mut.new.seat a.root number a.offset before bytes inv.1 over,
      );
    }
