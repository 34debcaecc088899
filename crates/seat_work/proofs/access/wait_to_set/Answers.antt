use Rattle.std.proofs.Common.{◌+◌, ◌≤◌, length, sym, subst}
use Rattle.pool_law.specs.declared.note.Did.{Did}
use Rattle.pool_table.specs.declared.views.SeatView.{SeatView}
use Rattle.pool_table.specs.Capacities.{knows_of}
use Rattle.pool_table.specs.Counts.{HasCount}
use Rattle.shared_pool.specs.SeatViews.{view_of}
use Rattle.seat_work.proofs.Accesses.{accessed, set_quiet}
use Rattle.seat_work.proofs.access.wait_to_set.Goals as goal

pub write-requires-clause-counts : goal.write-requires-clause-counts
write-requires-clause-counts g c =
    subst (λ (v : SeatView). HasCount c.args.root v) (sym c.loop.invariant.1) c.requires.counts

pub write-requires-clause-range : goal.write-requires-clause-range
write-requires-clause-range g c =
    let a = c.args in
    subst (λ (v : SeatView). a.offset + length a.bytes.now ≤ knows_of a.root v) (sym c.loop.invariant.1)
    c.requires.range

pub returns-in-Did : goal.returns-in-Did
returns-in-Did g c =
    let inv = c.loop.invariant in let did = c.in-Did in let a = c.args in let mid = c.loop.seat in
    let it = accessed a.pool.now a.seat.now mid c.write.new.seat a.root did._number (Did.Set a.offset a.bytes.now)
    inv.0 inv.1 did.ensures.seat c.requires.works c.requires.counts
    (set_quiet a.root did._number (view_of mid).own.number a.offset a.bytes.now) did.ensures.did in
    record { proceeds = it.proceeds; counts = it.counts; noted = (did._number, it.noted) }
