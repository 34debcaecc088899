use Rattle.std.proofs.Common.{ℕ, ◌+◌, ◌≤◌, ◌∙◌, length, sym, subst, ap}
use Rattle.pool_law.specs.declared.note.Did.{Did}
use Rattle.pool_table.specs.declared.views.SeatView.{SeatView}
use Rattle.pool_table.specs.Capacities.{knows_of}
use Rattle.pool_table.specs.Counts.{HasCount}
use Rattle.pool_table.specs.Lone.{IsLone, own_bytes}
use Rattle.pool_law.specs.Roots.{bytes_at}
use Rattle.shared_pool.specs.SeatViews.{view_of}
use Rattle.seat_work.proofs.Accesses.{accessed, get_quiet}
use Rattle.seat_work.proofs.access.wait_to_get.Goals as goal

pub read-requires-clause-counts : goal.read-requires-clause-counts
read-requires-clause-counts g c =
    subst (λ (v : SeatView). HasCount c.args.root v) (sym c.loop.invariant.1) c.requires.counts

pub read-requires-clause-range : goal.read-requires-clause-range
read-requires-clause-range g c =
    let a = c.args in
    subst (λ (v : SeatView). a.offset + length c.loop.out ≤ knows_of a.root v) (sym c.loop.invariant.1)
    (subst (λ (n : ℕ). a.offset + n ≤ knows_of a.root (view_of a.seat.now)) (sym c.loop.invariant.2) c.requires.range)

pub returns-in-Did : goal.returns-in-Did
returns-in-Did g c =
    let inv = c.loop.invariant in let did = c.in-Did in let a = c.args in let mid = c.loop.seat in
    let out = c.read.new.out in
    let it = accessed a.pool.now a.seat.now mid c.read.new.seat a.root did._number (Did.Get a.offset out)
    inv.0 inv.1 did.ensures.seat c.requires.works c.requires.counts
    (get_quiet a.root did._number (view_of mid).own.number a.offset out) did.ensures.did in
    record {
      proceeds = it.proceeds;
      counts = it.counts;
      len = did.ensures.len ∙ c.loop.invariant.2;
      noted = (did._number, it.noted);
      lone =
          λ lone. did.ensures.lone (subst (λ (v : SeatView). IsLone a.root v) (sym inv.1) lone)
          ∙ ap (λ (v : SeatView). bytes_at (own_bytes a.root v) a.offset (length out)) inv.1;
    }
