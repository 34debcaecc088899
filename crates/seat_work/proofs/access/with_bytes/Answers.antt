use Rattle.std.proofs.Common.{◌+◌, ◌≤◌, sym, subst}
use Rattle.std.specs.Fn.{FnOnceReturnsAt}
use Rattle.pool_law.specs.declared.note.Did.{Did}
use Rattle.pool_table.specs.declared.views.SeatView.{SeatView}
use Rattle.pool_table.specs.Capacities.{knows_of}
use Rattle.pool_table.specs.Counts.{HasCount}
use Rattle.pool_table.specs.Lone.{IsLone, own_bytes}
use Rattle.pool_law.specs.Roots.{bytes_at}
use Rattle.shared_pool.specs.SeatViews.{view_of}
use Rattle.seat_work.proofs.Accesses.{accessed, get_quiet}
use Rattle.seat_work.proofs.access.with_bytes.Goals as goal

pub with_bytes-requires-clause-counts : goal.with_bytes-requires-clause-counts
with_bytes-requires-clause-counts g c =
    subst (λ (v : SeatView). HasCount c.args.root v) (sym c.loop.invariant.1) c.requires.counts

pub with_bytes-requires-clause-range : goal.with_bytes-requires-clause-range
with_bytes-requires-clause-range g c =
    let a = c.args in
    subst (λ (v : SeatView). a.offset + a.len ≤ knows_of a.root v) (sym c.loop.invariant.1) c.requires.range

pub with_bytes-requires-clause-callable : goal.with_bytes-requires-clause-callable
with_bytes-requires-clause-callable g c =
    subst (λ f. denote.Param.Always.always_once g.F.FnOnce f) (sym c.loop.invariant.2) c.requires.callable

pub returns-in-Did : goal.returns-in-Did
returns-in-Did g c =
    let inv = c.loop.invariant in let did = c.in-Did.ensures {u = tt} in let number = c.in-Did._number in
    let a = c.args in let mid = c.loop.seat in let bytes = did.did.0 in
    let it = accessed a.pool.now a.seat.now mid c.with_bytes.new.seat a.root number (Did.Get a.offset bytes) inv.0
    inv.1 did.seat c.requires.works c.requires.counts
    (get_quiet a.root number (view_of mid).own.number a.offset bytes) did.did.3 in
    record {
      proceeds = it.proceeds;
      counts = it.counts;
      shown = (
        bytes,
        number,
        did.did.1,
        subst (λ f. FnOnceReturnsAt g.F.FnOnce f bytes c.in-Did.answer) inv.2 did.did.2,
        it.noted,
      );
      lone =
          λ lone. subst (λ f. FnOnceReturnsAt g.F.FnOnce f
          (bytes_at (own_bytes a.root (view_of a.seat.now)) a.offset a.len) c.in-Did.answer) inv.2
          (subst (λ (v : SeatView). FnOnceReturnsAt g.F.FnOnce c.loop.f
          (bytes_at (own_bytes a.root v) a.offset a.len) c.in-Did.answer) inv.1
          (did.lone (subst (λ (v : SeatView). IsLone a.root v) (sym inv.1) lone)));
    }
